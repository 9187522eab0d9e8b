-- What writes one after another leave.
use Rattle.std.proofs.Common.{◌≡◌, ℕ, Bool, true, false, List, [], ◌∷◌, ◌++◌, Option, Some, None, refl, ap, ◌∙◌, sym, arith}
use Rattle.std.proofs.Common.{◌<◌, ◌+◌, suc, length, get_or, take, drop, map, length-take}
use Rattle.std.proofs.Math.Seq.{split_at}
use Rattle.std.proofs.lemmas.List.{take_more, map-append, length-map}
use Rattle.std.proofs.lemmas.Slice.Eq.{bytes_eq-Decides}
use Rattle.std.specs.Prelude.{if◌then◌else◌}
use Rattle.cpm_store.specs.declared.writes.Output.{Output}
use Rattle.std.specs.Str.{bytes_eq}
use Rattle.cpm_store.specs.Files.{StoreFiles, KeepsOthers, StoreName, WhereTold, Writes}
use Rattle.cpm_store.specs.Writes.{NamedBytes, StopsAt, WritesAll, named_output, with_file, files_written}

written_push : (files : StoreFiles) (ps : List NamedBytes) (p : NamedBytes) (name : StoreName) → files_written files (ps ++ p ∷ []) name ≡ with_file (files_written files ps) p name
written_push files [] p name = refl
written_push files (q ∷ ps) p name = written_push (with_file files q) ps p name

-- one more file
one_more : (old now new : StoreFiles) (p : NamedBytes) (name : StoreName) (is_it : Bool) → bytes_eq name p.0 ≡ is_it → now name ≡ old name → Writes p.0 p.1 now new
    → new name ≡ (if is_it then Some p.1 else old name)
one_more old now new p name true e same w = ap new ((bytes_eq-Decides name p.0).0 e) ∙ w.here
one_more old now new p name false e same w = w.others name e ∙ same

pub told_more : (f0 f1 f2 : Option StoreFiles) (ps : List NamedBytes) (p : NamedBytes) → WhereTold f0 f1 (WritesAll ps) → WhereTold f1 f2 (Writes p.0 p.1) → WhereTold f0 f2 (WritesAll (ps ++ p ∷ []))
told_more None f1 f2 ps p before write = tt
told_more (Some old) None f2 ps p before write = absurd before
told_more (Some old) (Some now) None ps p before write = absurd write
told_more (Some old) (Some now) (Some new) ps p before write =
    λ name. one_more (files_written old ps) now new p name (bytes_eq name p.0) refl (before name) write ∙ sym (written_push old ps p name)

pub told_stopped : (f0 f1 f2 : Option StoreFiles) (ps done : List NamedBytes) (p : NamedBytes) (rest : List NamedBytes) (count : ℕ) → ps ≡ done ++ p ∷ rest → length done ≡ count
    → WhereTold f0 f1 (WritesAll done) → WhereTold f1 f2 (KeepsOthers p.0) → WhereTold f0 f2 (StopsAt ps count)
told_stopped None f1 f2 ps done p rest count order place before write = tt
told_stopped (Some old) None f2 ps done p rest count order place before write = absurd before
told_stopped (Some old) (Some now) None ps done p rest count order place before write = absurd write
told_stopped (Some old) (Some now) (Some new) ps done p rest count order place before write = record {
  done = done;
  stopped_at = p;
  rest = rest;
  order = order;
  before = place;
  others = λ name apart. write name apart ∙ before name;
}

-- the outputs up to one of them, and with the rest
pub named-more : (os : List Output) (i : ℕ) (o : Output) → i < length os → o ≡ get_or os i o → map named_output (take (i + 1) os) ≡ map named_output (take i os) ++ named_output o ∷ []
named-more os i o within is = ap (map named_output) (take_more os i o within ∙ ap (λ x. take i os ++ x ∷ []) (sym is)) ∙ map-append named_output (take i os) (o ∷ [])

pub named-split : (os : List Output) (i : ℕ) (o : Output) → i < length os → o ≡ get_or os i o → map named_output os ≡ map named_output (take i os) ++ named_output o ∷ map named_output (drop (suc i) os)
named-split os i o within is = ap (map named_output) (split_at os i o within ∙ ap (λ x. take i os ++ x ∷ drop (suc i) os) (sym is)) ∙ map-append named_output (take i os) (o ∷ drop (suc i) os)

pub named-length : (os : List Output) (i : ℕ) → i < length os → length (map named_output (take i os)) ≡ i
named-length os i within = length-map (take i os) named_output ∙ grind (arith, length-take)
