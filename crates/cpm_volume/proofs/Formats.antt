-- The parameters of each format are those of a drive that serves files.
use Rattle.std.proofs.Common.{◌≡◌, ℕ, zero, suc, ◌<◌, true, refl, arith}
use Rattle.std.proofs.lemmas.Bool.{false≢true, and_parts, ltb-true}
use Rattle.cpm_geom.specs.declared.dpb.Dpb.{Dpb}
use Rattle.cpm_geom.specs.declared.format.Format.{Format}
use Rattle.cpm_geom.specs.declared.format.Format.TheVariants.{Ibm3740, Large}
use Rattle.cpm_geom.specs.Geometry.{dpb_of}
use Rattle.cpm_volume.specs.Files.{is_directory_block, directory_records, IsFormat}

-- AL0 C0h and AL1 00h are blocks 0 and 1
below_two : (d : Dpb) (b : ℕ) → d.directory_bits ≡ 0xC000 → b < 16 → is_directory_block d b ≡ true → b < 2
unfolding is_directory_block
below_two d zero bits low h = omega arith
below_two d (suc zero) bits low h = omega arith
below_two d (suc (suc zero)) bits low h = absurd (false≢true (rw bits at h))
below_two d (suc (suc (suc zero))) bits low h = absurd (false≢true (rw bits at h))
below_two d (suc (suc (suc (suc zero)))) bits low h = absurd (false≢true (rw bits at h))
below_two d (suc (suc (suc (suc (suc zero))))) bits low h = absurd (false≢true (rw bits at h))
below_two d (suc (suc (suc (suc (suc (suc zero)))))) bits low h = absurd (false≢true (rw bits at h))
below_two d (suc (suc (suc (suc (suc (suc (suc zero))))))) bits low h = absurd (false≢true (rw bits at h))
below_two d (suc (suc (suc (suc (suc (suc (suc (suc zero)))))))) bits low h = absurd (false≢true (rw bits at h))
below_two d (suc (suc (suc (suc (suc (suc (suc (suc (suc zero))))))))) bits low h = absurd (false≢true (rw bits at h))
below_two d (suc (suc (suc (suc (suc (suc (suc (suc (suc (suc zero)))))))))) bits low h = absurd (false≢true (rw bits at h))
below_two d (suc (suc (suc (suc (suc (suc (suc (suc (suc (suc (suc zero))))))))))) bits low h = absurd (false≢true (rw bits at h))
below_two d (suc (suc (suc (suc (suc (suc (suc (suc (suc (suc (suc (suc zero)))))))))))) bits low h = absurd (false≢true (rw bits at h))
below_two d (suc (suc (suc (suc (suc (suc (suc (suc (suc (suc (suc (suc (suc zero))))))))))))) bits low h = absurd (false≢true (rw bits at h))
below_two d (suc (suc (suc (suc (suc (suc (suc (suc (suc (suc (suc (suc (suc (suc zero)))))))))))))) bits low h = absurd (false≢true (rw bits at h))
below_two d (suc (suc (suc (suc (suc (suc (suc (suc (suc (suc (suc (suc (suc (suc (suc zero))))))))))))))) bits low h = absurd (false≢true (rw bits at h))
below_two d (suc (suc (suc (suc (suc (suc (suc (suc (suc (suc (suc (suc (suc (suc (suc (suc b)))))))))))))))) bits low h = absurd (omega arith)

within : (d : Dpb) (b : ℕ) → is_directory_block d b ≡ true → b < 16
unfolding is_directory_block
within d b h = ltb-true _ _ (and_parts _ _ h).0

two_blocks : (d : Dpb) (b : ℕ) → d.directory_bits ≡ 0xC000 → is_directory_block d b ≡ true → b < 2
two_blocks d b bits h = below_two d b bits (within d b h) h

from_two : (d : Dpb) (b : ℕ) → d.directory_bits ≡ 0xC000 → b < 2 → is_directory_block d b ≡ true
unfolding is_directory_block
from_two d zero bits h = rw bits refl
from_two d (suc zero) bits h = rw bits refl
from_two d (suc (suc b)) bits h = absurd (omega arith)

pub each_format : (f : Format) → IsFormat (dpb_of f)
unfolding dpb_of directory_records
each_format Ibm3740 = record {
  has_directory = omega arith;
  whole_records = refl;
  reserves = λ b. (λ h. let low = two_blocks (dpb_of Ibm3740) b refl h in omega arith, λ h. from_two (dpb_of Ibm3740) b refl (omega arith));
  whole_blocks = refl;
  places = omega arith;
}
each_format Large = record {
  has_directory = omega arith;
  whole_records = refl;
  reserves = λ b. (λ h. let low = two_blocks (dpb_of Large) b refl h in omega arith, λ h. from_two (dpb_of Large) b refl (omega arith));
  whole_blocks = refl;
  places = omega arith;
}
