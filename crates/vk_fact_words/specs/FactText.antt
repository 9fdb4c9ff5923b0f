-- What is said of facts. The forms are our own (profile).
use Rattle.std.specs.Prelude.{ℕ, Bool, true, false, List, [], ◌++◌, codes, decimal, Option, Some, None}
use Rattle.vk_model.specs.declared.rule.At.{At}
use Rattle.vk_model.specs.Trace.Point.{at_of}
use Rattle.vk_order.specs.declared.bytes.Byte.{Byte}
use Rattle.vk_order.specs.declared.bytes.Byte.TheVariants as byte
use Rattle.vk_model.specs.declared.point.Point.{Point}
use Rattle.vk_model.specs.Trace.PointViews.{point_of}
use Rattle.vk_words.specs.Points.{kind_text, at_text}
use Rattle.vk_hazards.specs.declared.asked.ObjectKind.{ObjectKind}
use Rattle.vk_hazards.specs.declared.asked.ObjectKind.TheVariants as kind
use Rattle.vk_hazards.specs.declared.counters.CounterFact.{CounterFact}
use Rattle.vk_hazards.specs.declared.facts.Fact.{Fact}
use Rattle.vk_hazards.specs.declared.facts.Fact.TheVariants as fact
use Rattle.vk_hazards.specs.declared.hazards.HazardFact.{HazardFact}
use Rattle.vk_hazards.specs.declared.lives.Life.{Life}
use Rattle.vk_hazards.specs.declared.strays.StrayId.{StrayId}

-- How a point is called (profile).
abbrev pub called : At → List ℕ
called at = kind_text at ++ at_text at

-- How a point of the code is called (profile).
abbrev pub point_called : Point → List ℕ
point_called p = called (at_of (point_of p))

-- A name and a number (profile).
abbrev pub named : List ℕ → ℕ → List ℕ
named name n = name ++ decimal n

-- A byte of a texel (profile).
abbrev pub texel_text : ℕ → ℕ → ℕ → List ℕ
texel_text k x y = named (codes "byte ") k ++ (named (codes " at texel ") x ++ named (codes ", ") y)

-- A level and a layer of an image (profile).
abbrev pub layer_text : ℕ → ℕ → ℕ → List ℕ
layer_text a l i = named (codes " of level ") a ++ (named (codes ", layer ") l ++ named (codes " of image ") i)

-- A byte of a resource (profile).
abbrev pub byte_text : Byte → List ℕ
byte_text (byte.Buffer b k) = named (codes "byte ") k ++ named (codes " of buffer ") b
byte_text (byte.Texel i a l x y k) = texel_text k x y ++ layer_text a l i

-- Yes or no (profile).
abbrev pub answer_text : Bool → List ℕ
answer_text true = codes "yes"
answer_text false = codes "no"

-- What an object is (profile).
abbrev pub object_text : ObjectKind → List ℕ
object_text kind.Buffer = codes "buffer"
object_text kind.Image = codes "image"
object_text kind.Resource = codes "buffer or image"
object_text kind.Pool = codes "pool"
object_text kind.Memory = codes "memory object"
object_text kind.Semaphore = codes "semaphore"
object_text kind.Event = codes "event"
object_text kind.Defrag = codes "defragmentation"

-- The point that made an id after the submit by whose past it is judged (profile).
abbrev pub late_text : Option Point → List ℕ
late_text None = codes ": not made so far"
late_text (Some p) = codes ": made at " ++ (point_called p ++ codes ", after the submit")

-- The point that made an id, or the one that made it after the submit (profile).
abbrev pub making_text : Option Point → Option Point → List ℕ
making_text None late = late_text late
making_text (Some p) late = codes ": made at " ++ point_called p

-- The point that ended it (profile).
abbrev pub ending_text : Option Point → List ℕ
ending_text None = []
ending_text (Some p) = codes ", ended at " ++ point_called p

-- What became of an id, with the point that made it after the submit (profile).
abbrev pub life_text : Life → Option Point → List ℕ
life_text l late = making_text l.made late ++ ending_text l.ended

-- The last signal of a semaphore (profile).
abbrev pub last_text : Option Point → List ℕ
last_text None = codes "; no signal so far"
last_text (Some p) = codes "; last signal: " ++ point_called p

-- How far a semaphore is, and the value that is asked for (profile).
abbrev pub counter_text : List ℕ → CounterFact → List ℕ
counter_text asked f = (named (codes "semaphore ") f.asked.semaphore ++ named (codes ": value ") f.counter) ++ (named asked f.asked.value ++ last_text f.last)

-- An earlier access (profile).
abbrev pub earlier_text : Point → List ℕ
earlier_text p = codes "earlier access: " ++ point_called p

-- The byte that both access (profile).
abbrev pub common_text : Byte → List ℕ
common_text b = codes "; both access " ++ byte_text b

-- Whether they are ordered (profile).
abbrev pub ordered_text : Bool → List ℕ
ordered_text is = codes "; ordered: " ++ answer_text is

-- A hazard (profile).
abbrev pub hazard_text : HazardFact → List ℕ
hazard_text f = earlier_text f.earlier.row.point ++ (common_text f.byte ++ ordered_text f.is_ordered)

-- What an id was to be (profile).
abbrev pub wanted_text : ObjectKind → List ℕ
wanted_text k = codes " as a " ++ object_text k

-- That a resource isn't in the pool of a defragmentation (profile).
abbrev pub stray_text : StrayId → List ℕ
stray_text s = named (codes "id ") s.life.id ++ ((named (codes " isn't in pool ") s.pool ++ named (codes " of defragmentation ") s.defrag) ++ life_text s.life None)

-- What is said of a fact (profile).
abbrev pub fact_text : Fact → List ℕ
fact_text (fact.Hazard f) = hazard_text f
fact_text (fact.Made l) = named (codes "id ") l.id ++ life_text l None
fact_text (fact.Dead d) = named (codes "id ") d.life.id ++ (wanted_text d.wanted ++ life_text d.life d.made_ever)
fact_text (fact.Stray s) = stray_text s
fact_text (fact.Signaled f) = counter_text (codes ", signaled value ") f
fact_text (fact.Waited f) = counter_text (codes ", awaited value ") f

-- The line with a fact, where one is reported (profile).
abbrev pub fact_line : Option Fact → List ℕ
fact_line None = []
fact_line (Some f) = codes "  " ++ fact_text f ++ codes "\n"

-- The member with a fact, where one is reported (profile).
abbrev pub fact_member : Option Fact → List ℕ
fact_member None = []
fact_member (Some f) = codes ",\"fact\":\"" ++ fact_text f ++ codes "\""
