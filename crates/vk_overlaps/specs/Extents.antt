-- Which parts of resources overlap.
use Rattle.std.specs.Prelude.{◌≡◌, List, ◌∷◌, ◌++◌, Bool, IsTrue, ◌&&◌, ◌||◌}
use Rattle.std.specs.List.{list_any}
use Rattle.vk_model.specs.Basics.{some_pair}
use Rattle.vk_model.specs.Memory.Suballocation.{ranges_meet}
use Rattle.vk_overlaps.specs.declared.extents.Span.{Span}
use Rattle.vk_overlaps.specs.declared.extents.Extent.{Extent}

-- Whether two spans have something in common; a span of none meets nothing.
abbrev pub spans_meet : Span → Span → Bool
spans_meet s t = ranges_meet s.start s.size t.start t.size

-- Whether two parts have something in common: their spans do along each axis.
abbrev pub extents_meet : Extent → Extent → Bool
extents_meet e f = spans_meet e.resources f.resources && spans_meet e.levels f.levels && spans_meet e.layers f.layers && spans_meet e.columns f.columns && spans_meet e.rows f.rows

-- Whether one of the parts that are written has something in common with another one of them, or with one that is read (Vulkan, "Copy Commands": regions of a copy must not overlap).
abbrev pub parts_overlap : List Extent → List Extent → Bool
parts_overlap written read = some_pair extents_meet written || list_any (λ w. list_any (extents_meet w) read) written

-- A part is one of those that are written, and has something in common with another one of them, or with one that is read. Equal parts at two places are two.
pub record IsOverlapping (written read : List Extent) (part : Extent) : Type 0 where
  pub before : List Extent
  pub after : List Extent
  pub whole : written ≡ before ++ part ∷ after
  pub meets : IsTrue (list_any (extents_meet part) (before ++ (after ++ read)))
