-- Objects of JSON that say which calls the points that they name stand for (profile).
use Rattle.std.specs.Prelude.{◌≡◌, ◌-◌, ℕ, List, [], ◌++◌, length, take, drop, codes, decimal, All, Option, Some, None, IsSome}
use Rattle.std.specs.List.{flat_map}
use Rattle.serde_json.specs.Data.{Data}
use Rattle.vk_model.specs.declared.rule.At.{At}
use Rattle.vk_words.specs.Points.{at_text}
use Rattle.vk_calls.specs.Calls.{SaidCall, call_in}

-- What a point stands for beyond its call (profile).
abbrev pub why_member : Option (List ℕ) → List ℕ
why_member None = []
why_member (Some why) = codes ",\"why\":\"" ++ why ++ codes "\""

-- The number and the name of a call (profile).
abbrev pub call_members : Option SaidCall → List ℕ
call_members None = []
call_members (Some c) = codes ",\"call\":" ++ decimal c.number ++ codes ",\"name\":\"" ++ c.name ++ codes "\"" ++ why_member c.why

-- A point with its call, behind a comma (profile).
abbrev pub point_object : Data → At → List ℕ
point_object d at = codes ",{\"point\":\"" ++ at_text at ++ codes "\"" ++ call_members (call_in d at) ++ codes "}"

-- The member with the calls of points (profile).
abbrev pub calls_member : Data → List At → List ℕ
calls_member d points = codes ",\"calls\":[" ++ drop 1 (flat_map (point_object d) points) ++ codes "]"

-- Each of these points has a call.
abbrev pub HaveCalls : Data → List At → Type 0
HaveCalls d points = All (λ at. IsSome (call_in d at)) points

-- An object with one member more, before its end: some points that have a call, with their calls.
pub record IsListed (d : Data) (text shown : List ℕ) : Type 0 where
  pub points : List At
  pub called : HaveCalls d points
  pub whole : shown ≡ take (length text - 2) text ++ (calls_member d points ++ drop (length text - 2) text)
