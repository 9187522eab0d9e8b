-- Objects whose members nest nothing and have no float.
use Rattle.std.proofs.Common.{◌≡◌, ◌≤◌, ℕ, List, [], ◌∷◌, Bool, true, false, Option, Some, None, Ordering, Less, Equal, Greater, refl, ap, ◌∙◌, arith, codes, max}
use Rattle.std.specs.Prelude.{◌||◌}
use Rattle.std.specs.List.{AllByRecursion}
use Rattle.std.proofs.Math.Nat.{le-max_left, le-max_right}
use Rattle.std.specs.Ordering.{match_ordering, nat_cmp}
use Rattle.std.specs.Cmp.Lexicographic.{slice_cmp}
use Rattle.serde_json.specs.Data.{Data, boolean, string, Members, no_members, member, depth, members_depth, put}
use Rattle.serde_json.specs.Read.{max_depth}
use Rattle.serde_json.specs.Written.{has_float, members_have_float}
use Rattle.cpm_protocol.specs.Flat.{RepliesAreFlat}
use Rattle.cpm_protocol.specs.Requests.{AskedTag, NumberTag, TextTag, FaultOf, UnknownName}
use Rattle.cpm_protocol.specs.Replies.{Answered, Opened, Accepted, Granted, Text, Looked, Written, Turned, Refused, Wrong, NoJson, TooLong}
use Rattle.cpm_protocol.specs.Replies.{Member, number_data, put_all, reply_json, reply_members, tag_members}
use Rattle.cpm_protocol.specs.declared.fault.FieldFault.TheVariants as fault

-- a value that nests nothing and is no float
pub record IsFlat (d : Data) : Type 0 where
  pub no_float : has_float d ≡ false
  pub no_depth : depth d ≡ 0

pub record AreFlat (ms : Members) : Type 0 where
  pub no_float : members_have_float ms ≡ false
  pub no_depth : members_depth ms ≡ 0

one_more : (k : List ℕ) (d : Data) (ms : Members) → IsFlat d → AreFlat ms → AreFlat (member k d ms)
one_more k d ms one flat = record {
  no_float = ap (λ b. b || members_have_float ms) one.no_float ∙ flat.no_float;
  no_depth = ap (λ n. max n (members_depth ms)) one.no_depth ∙ ap (λ n. max 0 n) flat.no_depth;
}

-- each way in which a member goes in
put_at : (o : Ordering) (a b c : Members) → AreFlat a → AreFlat b → AreFlat c → AreFlat (match_ordering o a b c)
put_at Less a b c x y z = x
put_at Equal a b c x y z = y
put_at Greater a b c x y z = z

neither : (a b : Bool) → (a || b) ≡ false → (a ≡ false) × (b ≡ false)
neither false b h = (refl, h)
neither true b h = absurd (cc)

both_zero : (a b : ℕ) → max a b ≡ 0 → (a ≡ 0) × (b ≡ 0)
both_zero a b h = (omega (arith, le-max_left a b), omega (arith, le-max_right a b))

rest_flat : (l : List ℕ) (e : Data) (ms : Members) → AreFlat (member l e ms) → IsFlat e × AreFlat ms
rest_flat l e ms flat =
    let floats = neither (has_float e) (members_have_float ms) flat.no_float in
    let depths = both_zero (depth e) (members_depth ms) flat.no_depth in
    (record { no_float = floats.0; no_depth = depths.0 }, record { no_float = floats.1; no_depth = depths.1 })

flat_put : (k : List ℕ) (d : Data) (ms : Members) → IsFlat d → AreFlat ms → AreFlat (put k d ms)
flat_put k d no_members one flat = one_more k d no_members one flat
flat_put k d (member l e ms) one flat =
    let parts = rest_flat l e ms flat in
    put_at (slice_cmp nat_cmp k l) _ _ _ (one_more k d (member l e ms) one flat) (one_more l d ms one parts.1)
    (one_more l e (put k d ms) parts.0 (flat_put k d ms one parts.1))

pub flat_put_all : (entries : List Member) (ms : Members) → AllByRecursion (λ m. IsFlat m.1) entries → AreFlat ms → AreFlat (put_all entries ms)
flat_put_all [] ms all flat = flat
flat_put_all (m ∷ rest) ms all flat = flat_put_all rest (put m.0 m.1 ms) all.1 (flat_put m.0 m.1 ms all.0 flat)

flat_number : (n : ℕ) → IsFlat (number_data n)
flat_number n = record { no_float = refl; no_depth = refl }

flat_text : (t : List ℕ) → IsFlat (string t)
flat_text t = record { no_float = refl; no_depth = refl }

flat_truth : (b : Bool) → IsFlat (boolean b)
flat_truth b = record { no_float = refl; no_depth = refl }

-- so is what a reply has
members_flat : (a : Answered) → AllByRecursion (λ m. IsFlat m.1) (reply_members a)
members_flat (Opened slot) = (flat_number _, tt)
members_flat (Accepted accepted) = (flat_number _, tt)
members_flat (Granted executed why) = (flat_number _, (flat_text _, tt))
members_flat (Text bytes) = (flat_text _, tt)
members_flat (Looked l) = (flat_number _, (flat_number _, (flat_number _, (flat_number _, (flat_number _, (flat_number _, (flat_number _, (flat_number _, (flat_number _, (flat_number _, (flat_number _, (flat_number _, (flat_number _, (flat_number _, (flat_truth _, (flat_truth _, (flat_number _, (flat_text _, (flat_number _, (flat_truth _, (flat_number _, (flat_number _, (flat_number _, tt)))))))))))))))))))))))
members_flat (Written bytes) = (flat_number _, tt)
members_flat (Turned t) = (flat_number _, (flat_number _, (flat_text _, (flat_text _, (flat_text _, (flat_truth _, (flat_text _, tt)))))))
members_flat (Refused refusal) = (flat_text _, (flat_text _, tt))
members_flat (Wrong (FaultOf (fault.Missing f))) = (flat_text _, (flat_text _, tt))
members_flat (Wrong (FaultOf (fault.Wrong f))) = (flat_text _, (flat_text _, tt))
members_flat (Wrong (UnknownName name)) = (flat_text _, (flat_text _, tt))
members_flat (NoJson at) = (flat_text _, (flat_number _, tt))
members_flat TooLong = (flat_text _, tt)

no_members_flat : AreFlat no_members
no_members_flat = record { no_float = refl; no_depth = refl }

tag_flat : (tag : Option AskedTag) → AreFlat (tag_members tag)
tag_flat None = no_members_flat
tag_flat (Some (NumberTag n)) = one_more (codes "tag") (number_data n) no_members (flat_number n) no_members_flat
tag_flat (Some (TextTag t)) = one_more (codes "tag") (string t) no_members (flat_text t) no_members_flat

reply_flat : (tag : Option AskedTag) (a : Answered) → AreFlat (put_all (reply_members a) (tag_members tag))
reply_flat tag a = flat_put_all (reply_members a) (tag_members tag) (members_flat a) (tag_flat tag)

-- a reply has no float, and nests no deeper than is read
pub reply-no_float : (tag : Option AskedTag) (a : Answered) → has_float (reply_json tag a) ≡ false
reply-no_float tag a = (reply_flat tag a).no_float

pub reply-depth : (tag : Option AskedTag) (a : Answered) → depth (reply_json tag a) ≤ max_depth
reply-depth tag a = omega (arith, (reply_flat tag a).no_depth)

pub replies-flat : RepliesAreFlat
replies-flat tag a = (reply-no_float tag a, omega (arith, (reply_flat tag a).no_depth))
