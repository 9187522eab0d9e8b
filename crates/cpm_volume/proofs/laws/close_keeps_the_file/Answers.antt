use Rattle.std.proofs.Common.{inl, inr}
use Rattle.cpm_volume.specs.Operations.{with_entry, close_file_on_volume}
use Rattle.cpm_volume.proofs.Closing as closing
use Rattle.cpm_volume.proofs.laws.close_keeps_the_file.Goals as goal

pub returns : goal.returns
unfolding close_file_on_volume with_entry
returns c = λ d protected v user x ok wf kept. elim (closing.answer d v.entries v.reserved user x ok wf kept protected) [
  | inl a ↦ inl (record {
    index = kept.index;
    after = closing.after d v.entries v.reserved user x ok wf kept;
    answer = a.0;
    owner = kept.owner;
    protects = a.1;
    file = closing.same_file d v.entries v.reserved user x ok wf kept;
    open_file_record = closing.same_open d v.entries v.reserved user x ok wf kept;
    others = closing.others d v.entries v.reserved user x ok wf kept;
    well_formed = closing.well_formed_after d v.entries v.reserved user x ok wf kept;
    kept = closing.kept_after d v.entries v.reserved user x ok wf kept;
    sound = λ volume map. record {
      volume = record { blocks = volume.blocks; space = volume.space; maps = closing.maps_after d v.entries v.reserved user x ok wf kept map volume.maps };
      well_formed = closing.well_formed_after d v.entries v.reserved user x ok wf kept;
      kept = closing.kept_after d v.entries v.reserved user x ok wf kept;
      map = map;
    };
  })
  | inr p ↦ inr p
]
