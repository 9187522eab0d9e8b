-- The rest of a run in the code, and what is put in front of what it leaves.
use Rattle.std.proofs.Common.{◌≡◌, ◌∙◌, ◌+◌, ◌<◌, ◌≤◌, ◌⊎◌, inl, inr, ◌++◌, ℕ, zero, suc, List, [], ◌∷◌, Option, None, Some, refl, sym, ap, ap₂, subst, arith, append-nil, append_assoc, drop, get_or, length, map, slice_get, Result, Ok, Err, IfOk, OnOk}
use Rattle.std.specs.Prelude.{IfSome, option_map}
use Rattle.std.proofs.lemmas.Bool.{cases_lt}
use Rattle.std.proofs.lemmas.List.{at_drop_all, drop_more, length-map, length_push, map-append}
use Rattle.std.proofs.lemmas.Option.{slice_get-get_or, slice_get-map}
use Rattle.cpm_batch.specs.Outputs.{SessionOutput, left_by}
use Rattle.cpm_batch.specs.declared.output.SessionFiles.{SessionFiles}
use Rattle.cpm_config.specs.declared.config.SessionConfig.{SessionConfig}
use Rattle.cpm_geom.specs.Disk.{Disk}
use Rattle.cpm_machine.specs.SystemDigest.{system_digest}
use Rattle.cpm_run.specs.Kept.{standing_view}
use Rattle.cpm_run.specs.Pressable.{ArePressable, HaveFewKeys}
use Rattle.cpm_run.specs.Run.{AllAccepted, AreRestorable, CanGoOn, HasPlayedFrom, LeavesFiles, ReportEntry, files_from, files_left, left_of, report_behind, report_view, reported_of, reports_behind, reports_from, reports_of, run_of, session_output}
use Rattle.cpm_run.specs.Settled.{SettledSession, settled_view, starts_of}
use Rattle.cpm_run.specs.Rest.{RunStanding, SessionStanding, output_behind, outputs_behind, rest_from, rest_of, rest_of_session, rest_start, rests, standing_at, stands_all, stands_by}
use Rattle.cpm_run.specs.declared.report.SessionReport.{SessionReport}
use Rattle.cpm_run.specs.declared.settled.SettledInput.{SettledInput}
use Rattle.cpm_run.specs.declared.standing.KeptSession.{KeptSession}
use Rattle.cpm_slots.specs.Host.{new_host}

-- ---- standings at places

pub first-left : (ss : RunStanding) (n : ℕ) → standing_at (drop n ss) 0 ≡ standing_at ss n
first-left [] zero = refl
first-left [] (suc n) = refl
first-left (s ∷ ss) zero = refl
first-left (s ∷ ss) (suc n) = first-left ss n

next-left : (ss : RunStanding) (n : ℕ) → drop 1 (drop n ss) ≡ drop (suc n) ss
next-left [] zero = refl
next-left [] (suc n) = refl
next-left (s ∷ ss) zero = refl
next-left (s ∷ ss) (suc n) = next-left ss n

pub one-more-left : (ss : RunStanding) (n : ℕ) → drop 1 (drop n ss) ≡ drop (n + 1) ss
one-more-left ss n = next-left ss n ∙ ap (λ (m : ℕ). drop m ss) (let next : suc n ≡ n + 1 = omega arith in next)

-- ---- the rest of each session

pub rests-more : (all : RunStanding) (is : List SettledInput) (n : ℕ) (x : SettledInput) (so_far more : List SettledInput) (r : SettledInput) → n < length is → x ≡ get_or is n x
    → settled_view r ≡ rest_of_session all (standing_at all n) (settled_view x) → more ≡ so_far ++ r ∷ []
    → map settled_view so_far ++ rests all (map settled_view (drop n is)) (drop n all) ≡ rest_of (map settled_view is) all
    → map settled_view more ++ rests all (map settled_view (drop (n + 1) is)) (drop (n + 1) all) ≡ rest_of (map settled_view is) all
rests-more all is n x so_far more r within at one pushed h =
    let others = rests all (map settled_view (drop (n + 1) is)) (drop (n + 1) all) in
    let here : drop n is ≡ x ∷ drop (n + 1) is = drop_more is n x within ∙ ap (λ (y : SettledInput). y ∷ drop (n + 1) is) (sym at) in
    ap (λ (ys : List SettledInput). map settled_view ys ++ others) pushed
    ∙ ap (λ (ys : List SettledSession). ys ++ others) (map-append settled_view so_far (r ∷ []))
    ∙ append_assoc (map settled_view so_far) (settled_view r ∷ []) others
    ∙ ap₂ (λ (y : SettledSession) (ys : List SettledSession). map settled_view so_far ++ (y ∷ ys))
    (one ∙ ap (λ (o : Option SessionStanding). rest_of_session all o (settled_view x)) (sym (first-left all n)))
    (ap (λ (ss : RunStanding). rests all (map settled_view (drop (n + 1) is)) ss) (sym (one-more-left all n)))
    ∙ ap (λ (ys : List SettledInput). map settled_view so_far ++ rests all (map settled_view ys) (drop n all)) (sym here)
    ∙ h

pub rests-all : (all : RunStanding) (is : List SettledInput) (n : ℕ) (so_far : List SettledInput) → length is ≤ n
    → map settled_view so_far ++ rests all (map settled_view (drop n is)) (drop n all) ≡ rest_of (map settled_view is) all → map settled_view so_far ≡ rest_of (map settled_view is) all
rests-all all is n so_far past h =
    sym (append-nil (map settled_view so_far))
    ∙ sym (at_drop_all (λ (ys : List SettledInput). map settled_view so_far ++ rests all (map settled_view ys) (drop n all)) is n past) ∙ h

pub rests-none : (all : RunStanding) (is so_far : List SettledInput) → so_far ≡ [] → map settled_view so_far ++ rests all (map settled_view is) all ≡ rest_of (map settled_view is) all
rests-none all is so_far none = ap (λ (ys : List SettledInput). map settled_view ys ++ rests all (map settled_view is) all) none

-- each is the rest of a session of the configuration
same-session : (o : Option SessionStanding) (start : _) (i : SettledSession) → (rest_from o start i).session ≡ i.session
same-session None start i = refl
same-session (Some s) start i = refl

pub same-sessions : (all : RunStanding) (is : List SettledSession) (ss : RunStanding) → map (λ (i : SettledSession). i.session) (rests all is ss) ≡ map (λ (i : SettledSession). i.session) is
same-sessions all [] ss = refl
same-sessions all (i ∷ is) ss =
    let from = stands_by all (standing_at ss 0) i.start in
    ap₂ (λ (x : SessionConfig) (xs : List SessionConfig). x ∷ xs) (same-session from (rest_start (standing_at ss 0) from i.start) i) (same-sessions all is (drop 1 ss))

-- ---- what was shown before

pub stands-at : (all : RunStanding) (is : List SettledSession) (ss : RunStanding) (n : ℕ) (i : SettledSession) → slice_get is n ≡ Some i → standing_at (stands_all all is ss) n ≡ stands_by all (standing_at ss n) i.start
stands-at all [] ss n i at = absurd (let no : ⊥ = cc in no)
stands-at all (j ∷ is) ss zero i at = let same : j ≡ i = cc in ap (λ (x : SettledSession). stands_by all (standing_at ss 0) x.start) same
stands-at all (j ∷ is) [] (suc n) i at = stands-at all is [] n i at
stands-at all (j ∷ is) (s ∷ ss) (suc n) i at = stands-at all is ss n i at

pub stands-past : (all : RunStanding) (is : List SettledSession) (ss : RunStanding) (n : ℕ) → length is ≤ n → standing_at (stands_all all is ss) n ≡ None
stands-past all [] ss n past = refl
stands-past all (j ∷ is) ss zero past = absurd (omega arith)
stands-past all (j ∷ is) ss (suc n) past = stands-past all is (drop 1 ss) n (omega arith)

pub kept-there : (all : RunStanding) (is : List SettledInput) (n : ℕ) (x : SettledInput) → n < length is → x ≡ get_or is n x
    → standing_at (stands_all all (map settled_view is) all) n ≡ stands_by all (standing_at all n) (settled_view x).start
kept-there all is n x within at =
    stands-at all (map settled_view is) all n (settled_view x) (slice_get-map settled_view is n ∙ ap (option_map settled_view) (slice_get-get_or is n x within ∙ ap Some (sym at)))

pub kept-past : (all : RunStanding) (is : List SettledInput) (n : ℕ) → length is ≤ n → standing_at (stands_all all (map settled_view is) all) n ≡ None
kept-past all is n past = stands-past all (map settled_view is) all n (let long = length-map is settled_view in omega (arith, past, long))

-- ---- reports and files

-- those of the first sessions, with those of the others to come
pub reports-more : (from : RunStanding) (n : ℕ) (r w : SessionReport) (so_far more rest : List SessionReport) (whole : List ReportEntry) → n ≡ length so_far → more ≡ so_far ++ w ∷ []
    → report_view w ≡ report_behind (standing_at from n) (report_view r)
    → map report_view so_far ++ reports_behind (drop (length so_far) from) (map report_view (r ∷ rest)) ≡ whole
    → map report_view more ++ reports_behind (drop (length more) from) (map report_view rest) ≡ whole
reports-more from n r w so_far more rest whole long pushed one h =
    let others = reports_behind (drop (length more) from) (map report_view rest) in
    let longer : length more ≡ length so_far + 1 = ap length pushed ∙ length_push so_far w in
    ap (λ (ys : List SessionReport). map report_view ys ++ others) pushed
    ∙ ap (λ (ys : List ReportEntry). ys ++ others) (map-append report_view so_far (w ∷ []))
    ∙ append_assoc (map report_view so_far) (report_view w ∷ []) others
    ∙ ap₂ (λ (y : ReportEntry) (ys : List ReportEntry). map report_view so_far ++ (y ∷ ys))
    (one ∙ ap (λ (m : ℕ). report_behind (standing_at from m) (report_view r)) long
    ∙ ap (λ (o : Option SessionStanding). report_behind o (report_view r)) (sym (first-left from (length so_far))))
    (ap (λ (m : ℕ). reports_behind (drop m from) (map report_view rest)) longer ∙ ap (λ (ss : RunStanding). reports_behind ss (map report_view rest)) (sym (one-more-left from (length so_far))))
    ∙ h

pub files-more : (from : RunStanding) (n : ℕ) (f w : SessionFiles) (so_far more rest : List SessionFiles) (whole : List SessionOutput) → n ≡ length so_far → more ≡ so_far ++ w ∷ []
    → left_by w ≡ output_behind (standing_at from n) (left_by f)
    → map left_by so_far ++ outputs_behind (drop (length so_far) from) (map left_by (f ∷ rest)) ≡ whole
    → map left_by more ++ outputs_behind (drop (length more) from) (map left_by rest) ≡ whole
files-more from n f w so_far more rest whole long pushed one h =
    let others = outputs_behind (drop (length more) from) (map left_by rest) in
    let longer : length more ≡ length so_far + 1 = ap length pushed ∙ length_push so_far w in
    ap (λ (ys : List SessionFiles). map left_by ys ++ others) pushed
    ∙ ap (λ (ys : List SessionOutput). ys ++ others) (map-append left_by so_far (w ∷ []))
    ∙ append_assoc (map left_by so_far) (left_by w ∷ []) others
    ∙ ap₂ (λ (y : SessionOutput) (ys : List SessionOutput). map left_by so_far ++ (y ∷ ys))
    (one ∙ ap (λ (m : ℕ). output_behind (standing_at from m) (left_by f)) long
    ∙ ap (λ (o : Option SessionStanding). output_behind o (left_by f)) (sym (first-left from (length so_far))))
    (ap (λ (m : ℕ). outputs_behind (drop m from) (map left_by rest)) longer ∙ ap (λ (ss : RunStanding). outputs_behind ss (map left_by rest)) (sym (one-more-left from (length so_far))))
    ∙ h

-- a report says as many bytes as the console has
bytes-reported : (rs : List SessionReport) → map (λ (r : SessionReport). r.bytes) rs ≡ map (λ (e : ReportEntry). e.bytes) (map report_view rs)
bytes-reported [] = refl
bytes-reported (r ∷ rs) = ap (λ (ns : List ℕ). r.bytes ∷ ns) (bytes-reported rs)

bytes-left : (fs : List SessionFiles) → map (λ (f : SessionFiles). length f.console.items) fs ≡ map (λ (o : SessionOutput). length o.console) (map left_by fs)
bytes-left [] = refl
bytes-left (f ∷ fs) = ap (λ (ns : List ℕ). length f.console.items ∷ ns) (bytes-left fs)

bytes-of : (system : Disk) (all is : List SettledSession) → map (λ (e : ReportEntry). e.bytes) (map (λ (i : SettledSession). reported_of i.session (run_of system all i)) is)
    ≡ map (λ (o : SessionOutput). length o.console) (map (λ (i : SettledSession). session_output system i.session (run_of system all i) (left_of system all i)) is)
bytes-of system all [] = refl
bytes-of system all (i ∷ is) = ap (λ (ns : List ℕ). length (run_of system all i).session.console.screen ∷ ns) (bytes-of system all is)

pub same-bytes : (system : Disk) (is : List SettledSession) (rs : List SessionReport) (fs : List SessionFiles) → map report_view rs ≡ reports_of system is → map left_by fs ≡ files_left system is
    → map (λ (r : SessionReport). r.bytes) rs ≡ map (λ (f : SessionFiles). length f.console.items) fs
same-bytes system is rs fs reports files =
    bytes-reported rs ∙ ap (map (λ (e : ReportEntry). e.bytes)) reports ∙ bytes-of system is is ∙ ap (map (λ (o : SessionOutput). length o.console)) (sym files) ∙ sym (bytes-left fs)

-- those of the next session, and of the others
pub bytes-next : (r : SessionReport) (rs : List SessionReport) (f : SessionFiles) (fs : List SessionFiles) → map (λ (x : SessionReport). x.bytes) (r ∷ rs) ≡ map (λ (x : SessionFiles). length x.console.items) (f ∷ fs)
    → map (λ (x : SessionReport). x.bytes) rs ≡ map (λ (x : SessionFiles). length x.console.items) fs
bytes-next r rs f fs same = cc

pub files-none : (rs : List SessionReport) (fs : List SessionFiles) → rs ≡ [] → map (λ (x : SessionReport). x.bytes) rs ≡ map (λ (x : SessionFiles). length x.console.items) fs → fs ≡ []
files-none rs [] none same = refl
files-none rs (f ∷ fs) none same = absurd (bad (ap (map (λ (x : SessionReport). x.bytes)) (sym none) ∙ same))
  where
    bad : [] ≡ map (λ (x : SessionFiles). length x.console.items) (f ∷ fs) → ⊥
    bad is = cc

-- ---- the system drive

abbrev pub AreOver : Disk → RunStanding → Type 0
AreOver system ss = (place : ℕ) → IfSome (standing_at ss place) (λ s. s.saving.system_digest ≡ system_digest system)

abbrev pub IsOver : List ℕ → RunStanding → ℕ → Type 0
IsOver digest ss place = IfSome (standing_at ss place) (λ s. s.saving.system_digest ≡ digest)

pub over-more : (digest : List ℕ) (ss : RunStanding) (n : ℕ) (o : Option SessionStanding) → o ≡ standing_at ss n → IfSome o (λ s. s.saving.system_digest ≡ digest) → ((place : ℕ) → place < n → IsOver digest ss place)
    → (place : ℕ) → place < n + 1 → IsOver digest ss place
over-more digest ss n o at here before place below = by_place (cases_lt place n)
  where
    by_place : (place < n) ⊎ (n ≤ place) → IsOver digest ss place
    by_place (inl less) = before place less
    by_place (inr most) =
        let low : n ≤ place = most in
        let same : n ≡ place = omega arith in
        subst (IsOver digest ss) same (subst (λ (x : Option SessionStanding). IfSome x (λ s. s.saving.system_digest ≡ digest)) at here)

none-past : (kept : List (Option KeptSession)) (place : ℕ) → length kept ≤ place → standing_at (standing_view kept) place ≡ None
none-past [] place past = refl
none-past (k ∷ kept) zero past = absurd (omega arith)
none-past (k ∷ kept) (suc place) past = none-past kept place (omega arith)

pub over-all : (digest system : List ℕ) (kept : List (Option KeptSession)) (n : ℕ) → digest ≡ system → length kept ≤ n → ((place : ℕ) → place < n → IsOver digest (standing_view kept) place)
    → (place : ℕ) → IsOver system (standing_view kept) place
over-all digest system kept n is past before place = by_place (cases_lt place n)
  where
    by_place : (place < n) ⊎ (n ≤ place) → IsOver system (standing_view kept) place
    by_place (inl less) = subst (λ (d : List ℕ). IsOver d (standing_view kept) place) is (before place less)
    by_place (inr most) =
        subst (λ (o : Option SessionStanding). IfSome o (λ s. s.saving.system_digest ≡ system)) (sym (none-past kept place (let low : n ≤ place = most in let end : length kept ≤ n = past in omega arith))) tt

-- ---- a run that goes on, or begins

-- what the rest of a run leaves that was played over a copy of the system drive
pub left_by_rest : (system drive : Disk) (frames : ℕ) (inputs sessions rest : List SettledSession) (s : RunStanding) (reports : List ReportEntry) (files : List SessionOutput) → drive ≡ system → sessions ≡ inputs
    → rest ≡ rest_of sessions s → AreOver system s × ArePressable system rest → reports ≡ reports_from drive sessions (Some s) → files ≡ files_from drive sessions (Some s) → AreRestorable drive (rest_of sessions s)
    → HasPlayedFrom system frames inputs (Some s) (LeavesFiles system inputs reports files)
left_by_rest system drive frames inputs sessions rest s reports files same are is can reported left savings = record {
  from = Some s;
  gone = (refl, can.0, subst (λ (is : List SettledSession). ArePressable system (rest_of is s)) are (subst (ArePressable system) is can.1));
  left = (reported ∙ (λ i. reports_from (same i) (are i) (Some s)), left ∙ (λ i. files_from (same i) (are i) (Some s)));
  savings = subst (λ (d : Disk). AreRestorable d (rest_of inputs s)) same (subst (λ (is : List SettledSession). AreRestorable drive (rest_of is s)) are savings);
}

-- what a run leaves that begins, since it can't go on
pub left_anew : (system : Disk) (frames : ℕ) (inputs : List SettledSession) (s : RunStanding) (reports : List ReportEntry) (files : List SessionOutput) → (CanGoOn system frames inputs s → ⊥)
    → reports ≡ reports_of system inputs → files ≡ files_left system inputs → AreRestorable system inputs → HasPlayedFrom system frames inputs (Some s) (LeavesFiles system inputs reports files)
left_anew system frames inputs s reports files cannot reported left savings = record {
  from = None;
  gone = cannot;
  left = (reported, left);
  savings = savings;
}

-- it can't, by what was looked at before
pub no_keys : (system : Disk) (frames : ℕ) (inputs sessions rest : List SettledSession) (s : RunStanding) → sessions ≡ inputs → rest ≡ rest_of sessions s
    → (AreOver system s → ArePressable system rest → HaveFewKeys rest → ⊥) → CanGoOn system frames inputs s → ⊥
no_keys system frames inputs sessions rest s are is refused can =
    let same : rest_of inputs s ≡ rest = ap (λ (xs : List SettledSession). rest_of xs s) (sym are) ∙ sym is in
    refused can.over (subst (ArePressable system) same can.keys) (subst HaveFewKeys same can.few)

-- it can't, since a host refuses what is left
pub no_room : (system drive : Disk) (frames : ℕ) (inputs sessions rest : List SettledSession) (s : RunStanding) → drive ≡ system → sessions ≡ inputs → rest ≡ rest_of sessions s
    → (AllAccepted (starts_of rest) (new_host drive frames) (starts_of rest) → ⊥) → CanGoOn system frames inputs s → ⊥
no_room system drive frames inputs sessions rest s over are is refused can =
    let same : rest_of inputs s ≡ rest = ap (λ (xs : List SettledSession). rest_of xs s) (sym are) ∙ sym is in
    refused (subst (λ (d : Disk). AllAccepted (starts_of rest) (new_host d frames) (starts_of rest)) (sym over)
    (subst (λ (xs : List SettledSession). AllAccepted (starts_of xs) (new_host system frames) (starts_of xs)) same can.accepted))

-- what holds of a result that is there, where something else does
pub ok-by : {V E : Type 0} → (P : V → Type 0) (Q : Type 0) (r : Result V E) → OnOk r Q → (Q → (v : V) → P v) → IfOk r P
ok-by {V} {E} P Q (Ok v) q f = f q v
ok-by {V} {E} P Q (Err e) q f = tt
