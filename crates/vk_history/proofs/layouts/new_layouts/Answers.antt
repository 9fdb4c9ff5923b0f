use Rattle.vk_history.proofs.layouts.new_layouts.Goals as goal

pub returns : goal.returns
returns c = record {
  size = record { levels = c.in_ok-layouts.ensures.levels; layers = c.in_ok-layouts.ensures.layers };
  undefined = c.in_ok-layouts.ensures.undefined 0;
}
