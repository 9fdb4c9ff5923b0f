use Rattle.std.proofs.Common.{◌∙◌, sym, refl}
use Rattle.vk_touches.proofs.TouchMaps.{all_at, remembered_len}
use Rattle.vk_touches.proofs.map.TouchMap.new.Goals as goal

pub returns-clause-len : goal.returns-clause-len
returns-clause-len c = remembered_len (record { writes = c.in_ok-new.ensures.len ∙ sym c.in_ok-new-3.ensures.len; reads = c.in_ok-new-3.ensures.len ∙ sym c.in_ok-new-2.ensures.len }) ∙ c.in_ok-new.ensures.len

pub returns-clause-values : goal.returns-clause-values
returns-clause-values c = λ k lt.
    all_at c.in_ok-new.field-0 c.in_ok-new-3.field-0 c.in_ok-new-2.field-0 k c.none.result c.none-3.result c.none-2.result (c.in_ok-new.ensures.values k lt) (c.in_ok-new-3.ensures.values k lt) (c.in_ok-new-2.ensures.values k lt)
    ∙ rw (c.none.ensures, c.none-2.ensures, c.none-3.ensures) refl
