use Rattle.run_cluster.proofs.left.left_of.Goals as goal

pub returns : goal.returns
returns g c = record {
  places = c.in_ok-places.places.items;
  left = c.in_ok-places.ensures;
  dealt = c.in_ok-left.ensures;
}
