-- What a file of so many records needs, on a disk of each format.
use Rattle.std.proofs.Common.{◌≡◌, ◌≢◌, ℕ, ◌+◌, ◌%◌, ◌<◌, ◌≤◌, not, List, Some, None, refl, inl, inr, arith}
use Rattle.std.specs.List.{list_any}
use Rattle.std.proofs.lemmas.List.Sums.{count_by-le-length}
use Rattle.std.proofs.lemmas.Bool.{cases_eq, cases_lt, cases_Bool, lt-ltb, le-ltb, eq-eqb, ne_eqb}
use Rattle.cpm_geom.specs.declared.dpb.Dpb.{Dpb}
use Rattle.cpm_geom.specs.declared.format.Format.{Format}
use Rattle.cpm_geom.specs.declared.format.Format.TheVariants.{Ibm3740, Large}
use Rattle.cpm_geom.specs.Geometry.{dpb_of}
use Rattle.cpm_volume.specs.declared.extent.Entry.{Entry}
use Rattle.cpm_volume.specs.Names.{protects, reserved_after}
use Rattle.cpm_directory.specs.Login.{reserved_at_login}
use Rattle.cpm_image_files.specs.declared.refusal.FileRefusal.{FileRefusal}
use Rattle.cpm_image_files.specs.declared.refusal.FileRefusal.TheVariants.{ReadOnly, DirectoryFull, DiskFull}
use Rattle.cpm_image_files.specs.ImageFiles.{entries_for, blocks_for, free_entries, free_blocks, file_refusal_of}
use Rattle.cpm_image_files.specs.Appending.{entries_begun, blocks_begun}
use Rattle.cpm_image_files.specs.Writing.{HasRoomForFile}
use Rattle.cpm_image_files.proofs.FreeLemmas.{login_length, after_length}

-- ---- one record more
pub entries_grow : (f : Format) (n : ℕ) → entries_for (dpb_of f) (n + 1) ≡ entries_for (dpb_of f) n + entries_begun (dpb_of f) n
unfolding dpb_of entries_begun
entries_grow Ibm3740 n =
    elim (cases_eq n 0) [
      | inl z ↦ rw z refl
      | inr some ↦ elim (cases_eq (n % 128) 0) [
        | inl begins ↦ rw (lt-ltb 0 n (omega arith), eq-eqb _ _ begins) (omega arith)
        | inr within ↦ rw (lt-ltb 0 n (omega arith), ne_eqb _ _ within) (omega arith)
      ]
    ]
entries_grow Large n =
    elim (cases_eq n 0) [
      | inl z ↦ rw z refl
      | inr some ↦ elim (cases_eq (n % 256) 0) [
        | inl begins ↦ rw (lt-ltb 0 n (omega arith), eq-eqb _ _ begins) (omega arith)
        | inr within ↦ rw (lt-ltb 0 n (omega arith), ne_eqb _ _ within) (omega arith)
      ]
    ]

pub blocks_grow : (f : Format) (n : ℕ) → blocks_for (dpb_of f) (n + 1) ≡ blocks_for (dpb_of f) n + blocks_begun (dpb_of f) n
unfolding dpb_of blocks_begun
blocks_grow Ibm3740 n =
    elim (cases_eq (n % 8) 0) [
      | inl begins ↦ rw (eq-eqb _ _ begins) (omega arith)
      | inr within ↦ rw (ne_eqb _ _ within) (omega arith)
    ]
blocks_grow Large n =
    elim (cases_eq (n % 32) 0) [
      | inl begins ↦ rw (eq-eqb _ _ begins) (omega arith)
      | inr within ↦ rw (ne_eqb _ _ within) (omega arith)
    ]

-- ---- fewer records need no more
pub entries_less : (f : Format) (m n : ℕ) → m ≤ n → entries_for (dpb_of f) m ≤ entries_for (dpb_of f) n
unfolding dpb_of
entries_less Ibm3740 m n h = omega arith
entries_less Large m n h = omega arith

pub blocks_less : (f : Format) (m n : ℕ) → m ≤ n → blocks_for (dpb_of f) m ≤ blocks_for (dpb_of f) n
unfolding dpb_of
blocks_less Ibm3740 m n h = omega arith
blocks_less Large m n h = omega arith

pub entries_none : (f : Format) → entries_for (dpb_of f) 0 ≡ 1
unfolding dpb_of
entries_none Ibm3740 = refl
entries_none Large = refl

pub blocks_none : (f : Format) → blocks_for (dpb_of f) 0 ≡ 0
unfolding dpb_of
blocks_none Ibm3740 = refl
blocks_none Large = refl

blocks_small : (f : Format) (n : ℕ) → blocks_for (dpb_of f) n ≤ (dpb_of f).last_block + 1 → n < 65536
unfolding dpb_of
blocks_small Ibm3740 n h = omega arith
blocks_small Large n h = omega arith

-- ---- room
free_below : (d : Dpb) (user : ℕ) (name : List ℕ) (es : List Entry) → free_blocks d user name es ≤ d.last_block + 1
unfolding free_blocks
free_below d user name es =
    let most = count_by-le-length not (reserved_after d user name es (reserved_at_login d es)) in
    let size = after_length d user name es (reserved_at_login d es) in
    let all = login_length d es in
    omega arith

pub room_small : (f : Format) (es : List Entry) (user : ℕ) (name : List ℕ) (n : ℕ) → HasRoomForFile (dpb_of f) es user name n → n < 65536
room_small f es user name n room =
    let most = free_below (dpb_of f) user name es in
    let need = room.blocks in
    blocks_small f n (omega arith)

pub room_less : (f : Format) (es : List Entry) (user : ℕ) (name : List ℕ) (m n : ℕ) → HasRoomForFile (dpb_of f) es user name n → m ≤ n → HasRoomForFile (dpb_of f) es user name m
room_less f es user name m n room h =
    let entries = entries_less f m n h in
    let blocks = blocks_less f m n h in
    record {
      unprotected = room.unprotected;
      entries = (let need = room.entries in omega arith);
      blocks = (let need = room.blocks in omega arith);
    }

refused : (r : FileRefusal) → Some r ≢ None
refused r e = cc

pub room_of : (d : Dpb) (es : List Entry) (user : ℕ) (name : List ℕ) (n : ℕ) → file_refusal_of d es user name n ≡ None → HasRoomForFile d es user name n
unfolding file_refusal_of
room_of d es user name n h =
    elim (cases_Bool (list_any (protects user name) es)) [
      | inl t ↦ absurd (refused ReadOnly (rw t at h))
      | inr f ↦ elim (cases_lt (free_entries user name es) (entries_for d n)) [
        | inl lack ↦ absurd (refused DirectoryFull (rw (f, lt-ltb _ _ lack) at h))
        | inr entries ↦ elim (cases_lt (free_blocks d user name es) (blocks_for d n)) [
          | inl lack ↦ absurd (refused DiskFull (rw (f, le-ltb _ _ entries, lt-ltb _ _ lack) at h))
          | inr blocks ↦ record { unprotected = f; entries = entries; blocks = blocks }
        ]
      ]
    ]
