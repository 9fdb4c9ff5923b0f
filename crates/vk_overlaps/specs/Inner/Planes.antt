-- Planes that parts lie on sides of.
use Rattle.std.specs.Prelude.{◌+◌, Bool, nat_lt}
use Rattle.vk_overlaps.specs.declared.extents.Span.{Span}
use Rattle.vk_overlaps.specs.declared.extents.Extent.{Extent}
use Rattle.vk_overlaps.specs.declared.planes.Axis.{Axis}
use Rattle.vk_overlaps.specs.declared.planes.Axis.TheVariants.{Resources, Levels, Layers, Rows, Columns}
use Rattle.vk_overlaps.specs.declared.planes.Plane.{Plane}
use Rattle.vk_overlaps.specs.declared.planes.Side.{Side}
use Rattle.vk_overlaps.specs.declared.planes.Side.TheVariants.{Before, After}

-- The span of a part along an axis.
abbrev pub span_along : Axis → Extent → Span
span_along Resources e = e.resources
span_along Levels e = e.levels
span_along Layers e = e.layers
span_along Rows e = e.rows
span_along Columns e = e.columns

-- Whether a part has something on a side of a plane; one that the plane cuts has on both.
abbrev pub is_on : Plane → Side → Extent → Bool
is_on plane Before e = nat_lt (span_along plane.axis e).start plane.at
is_on plane After e = nat_lt plane.at ((span_along plane.axis e).start + (span_along plane.axis e).size)
