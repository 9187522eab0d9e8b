-- Members that are put in one after another.
use Rattle.std.proofs.Common.{◌≡◌, ◌<◌, ◌+◌, ℕ, List, ◌∷◌, length, get_or, drop, map, ap, ap₂, sym, ◌∙◌}
use Rattle.std.proofs.lemmas.List.{drop_more}
use Rattle.serde_json.specs.Data.{Members, put}
use Rattle.cpm_protocol.specs.Leaves.{leaf_data, member_seen}
use Rattle.cpm_protocol.specs.Replies.{put_all}
use Rattle.cpm_protocol.specs.declared.writing.ReplyMember.{ReplyMember}

-- one more, and those behind it
pub put_step : (es : List ReplyMember) (i : ℕ) (e : ReplyMember) (new old all : Members) → i < length es → e ≡ get_or es i e
    → new ≡ put e.name.now (leaf_data e.leaf) old → put_all (map member_seen (drop i es)) old ≡ all → put_all (map member_seen (drop (i + 1) es)) new ≡ all
put_step es i e new old all within is more so_far =
    ap (put_all (map member_seen (drop (i + 1) es))) more
    ∙ ap (λ (rest : List ReplyMember). put_all (map member_seen rest) old) (ap (λ (x : ReplyMember). x ∷ drop (i + 1) es) is ∙ sym (drop_more es i e within))
    ∙ so_far

-- lists whose first elements are equal, and the others too
pub also : {A : Type 0} {x y : A} {xs ys : List A} → x ≡ y → xs ≡ ys → x ∷ xs ≡ y ∷ ys
also {A} first rest = ap₂ (λ (a : A) (more : List A). a ∷ more) first rest
