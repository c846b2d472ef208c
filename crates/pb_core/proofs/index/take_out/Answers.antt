use Rattle.pb_core.proofs.Lowest.{takes_out, one_less}
use Rattle.std.specs.BTreeSet.{contains, btree_set_len}
use Rattle.pb_core.specs.Indexes.{place_cmp}
use Rattle.pb_core.proofs.index.take_out.Goals as goal

pub returns : goal.returns
returns c = record {
  places = takes_out c.args.places.now c.remove.new.self c.args.host c.args.place c.remove.ensures.updates.0;
  count = one_less c.remove.result (contains place_cmp c.args.places.now (c.args.place, c.args.host)) (btree_set_len c.remove.new.self) (btree_set_len c.args.places.now) c.remove.ensures.test c.remove.ensures.len;
}
