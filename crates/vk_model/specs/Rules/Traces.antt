-- The rule on the trace as a whole: LIMIT.
use Rattle.std.specs.Prelude.{length, Bool, nat_le}
use Rattle.vk_model.specs.Trace.Point.{Past, Point}

-- LIMIT: the point is number 131,072 or above, from 0 (profile).
abbrev pub breaks_limit : Past → Point → Bool
breaks_limit past p = nat_le 131072 (length past)
