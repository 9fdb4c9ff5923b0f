-- Where commands are: no two at one place.
use Rattle.std.specs.Prelude.{◌≡◌, false, ◌∷◌, [], ⊤}
use Rattle.vk_model.specs.declared.command.Cmd.{Cmd}
use Rattle.vk_model.specs.Trace.Point.{Past, Point, Run}
use Rattle.vk_model.specs.Sync.Node.{nodes, same_place}
use Rattle.vk_model.specs.Rules.Fault.{Comes}
use Rattle.vk_order.specs.Lines.{IsPlaced}

-- Where a point is a command, each older command is at another place.
abbrev pub IsElsewhere : Point → Past → Type 0
IsElsewhere p past = (c : Cmd) → p.action ≡ Run c → (before : Past) (q : Point) (d : Cmd) → Comes past before q → q.action ≡ Run d → same_place q p ≡ false

-- No two commands of a past are at one place.
abbrev pub IsApart : Past → Type 0
IsApart [] = ⊤
IsApart (p ∷ past) = IsElsewhere p past × IsApart past

-- Where no two commands are at one place, the elements of one command are together.
abbrev pub ApartIsPlaced : Type 0
ApartIsPlaced = (past : Past) → IsApart past → IsPlaced (nodes past)
