use Rattle.std.proofs.Common.{◌∙◌, List, ℕ, Bool, None, ap, map, sym, subst}
use Rattle.std.proofs.lemmas.Result.{IfErr-weaker, err_from_is_err_and, on_ok_weaker}
use Rattle.cpm_store.specs.Writes.{NamedBytes, named_output}
use Rattle.cpm_commands.specs.Asm.{IsProgramOf, IsSourceRefused}
use Rattle.cpm_commands.specs.Asm.IsAsmRefused.{Refused, Unread, Unwritten}
use Rattle.cpm_commands.specs.Files.{AreUnwritten, AreWritten}
use Rattle.cpm_commands.specs.Plan.{Plan}
use Rattle.cpm_commands.proofs.ListLemmas.{is_some_map}
use Rattle.cpm_commands.proofs.asm.assemble_file.Goals as goal

pub returns-in_err-text-clause-refusal : goal.returns-in_err-text-clause-refusal
returns-in_err-text-clause-refusal g c =
    let p = err_from_is_err_and c.from_residual-in_err-text.result c.from_residual-in_err-text.ensures.1 in
    let sees = subst (λ (p : Plan). g.F.CommandFiles.sees_to c.args.files.now p None c.see_to.new.self) c.in_ok-plan.ensures c.in_ok-see_to.ensures.seen in
    rw (p.1, p.2) (Unread c.see_to.new.self sees c.in_err-text.ensures.refusal.0 c.in_err-text.ensures.refusal.1)

pub returns-in_err-program-clause-refusal : goal.returns-in_err-program-clause-refusal
returns-in_err-program-clause-refusal g c =
    let p = err_from_is_err_and c.from_residual-in_err-program.result c.from_residual-in_err-program.ensures.1 in
    let sees = subst (λ (p : Plan). g.F.CommandFiles.sees_to c.args.files.now p None c.see_to.new.self) c.in_ok-plan.ensures c.in_ok-see_to.ensures.seen in
    let why = subst (λ (t : List ℕ). IsSourceRefused t c.in_err-program.field-0.0) c.as_slice.ensures.value c.in_err-program.ensures.refusal in
    rw (p.1, p.2) (Refused c.see_to.new.self c.in_ok-text.text.items sees c.in_ok-text.ensures.read why)

pub returns-in_err-outputs-clause-refusal : goal.returns-in_err-outputs-clause-refusal
returns-in_err-outputs-clause-refusal g c =
    let p = err_from_is_err_and c.from_residual-in_err-outputs.result c.from_residual-in_err-outputs.ensures.1 in
    let sees = subst (λ (p : Plan). g.F.CommandFiles.sees_to c.args.files.now p None c.see_to.new.self) c.in_ok-plan.ensures c.in_ok-see_to.ensures.seen in
    rw (p.1, p.2) (Refused c.see_to.new.self c.in_ok-text.text.items sees c.in_ok-text.ensures.read tt)

pub returns-clause-assembled : goal.returns-clause-assembled
returns-clause-assembled g c =
    let sees = subst (λ (p : Plan). g.F.CommandFiles.sees_to c.args.files.now p None c.see_to.new.self) c.in_ok-plan.ensures c.in_ok-see_to.ensures.seen in
    let image = c.in_ok-program.program.image.items in
    let listing = c.in_ok-program.program.listing.items in
    let source = subst (λ (t : List ℕ). IsProgramOf c.is_some.result t image listing) c.as_slice.ensures.value c.in_ok-program.ensures.program in
    let made = subst (λ (b : Bool). IsProgramOf b c.in_ok-text.text.items image listing) (c.is_some.ensures ∙ sym (is_some_map (λ n. n.now) c.args.list)) source in
    let outputs = ap (map named_output) c.as_slice-2.ensures.value ∙ c.in_ok-outputs.ensures in
    on_ok_weaker c.write_named.result (λ h. record {
      seen = c.see_to.new.self;
      read = c.read_file.new.files;
      text = c.in_ok-text.text.items;
      image = image;
      listing = listing;
      sees = sees;
      gave = c.in_ok-text.ensures.read;
      assembled = made;
      written = subst (λ (qs : List NamedBytes). AreWritten g.F.Store.does g.F.CommandFiles.gives_names qs c.read_file.new.files c.write_named.new.files) outputs h;
    }) c.write_named.ensures.written

pub returns-clause-refusal : goal.returns-clause-refusal
returns-clause-refusal g c =
    let sees = subst (λ (p : Plan). g.F.CommandFiles.sees_to c.args.files.now p None c.see_to.new.self) c.in_ok-plan.ensures c.in_ok-see_to.ensures.seen in
    let image = c.in_ok-program.program.image.items in
    let listing = c.in_ok-program.program.listing.items in
    let source = subst (λ (t : List ℕ). IsProgramOf c.is_some.result t image listing) c.as_slice.ensures.value c.in_ok-program.ensures.program in
    let made = subst (λ (b : Bool). IsProgramOf b c.in_ok-text.text.items image listing) (c.is_some.ensures ∙ sym (is_some_map (λ n. n.now) c.args.list)) source in
    let outputs = ap (map named_output) c.as_slice-2.ensures.value ∙ c.in_ok-outputs.ensures in
    IfErr-weaker c.write_named.result _ _
    (λ e h. Unwritten c.see_to.new.self c.read_file.new.files c.in_ok-text.text.items image listing sees c.in_ok-text.ensures.read made
    (subst (λ (qs : List NamedBytes). AreUnwritten g.F.Store.does g.F.CommandFiles.gives_names qs c.read_file.new.files c.write_named.new.files e) outputs h))
    c.write_named.ensures.refusal
