-- What a queue's cache holds of each memory object, of which some were not added.
use Rattle.std.specs.Prelude.{List, [], map, Option, Some, None}
use Rattle.vk_model.specs.Run.Caches.{Held}
use Rattle.vk_map_cache.specs.Holdings.{Holdings}

-- What is held of the bytes of an object; of none where it was not added.
abbrev pub held_of : Option (List (Option Held)) → List (Option Held)
held_of None = []
held_of (Some object) = object

-- The same of each object.
abbrev pub all_held : List (Option (List (Option Held))) → Holdings
all_held objects = map held_of objects
