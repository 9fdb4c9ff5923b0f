-- What is said of the links of a hazard. The forms are our own (profile).
use Rattle.std.specs.Prelude.{ℕ, List, [], ◌++◌, codes, Option, Some, None}
use Rattle.vk_hazards.specs.declared.hazards.Placed.{Placed}
use Rattle.vk_hazards.specs.declared.links.Links.{Links}
use Rattle.vk_hazards.specs.declared.links.Missing.{Missing}
use Rattle.vk_hazards.specs.declared.links.Missing.TheVariants as missing
use Rattle.vk_fact_words.specs.FactText.{point_called}

-- What is missing (profile).
abbrev pub missing_text : Missing → List ℕ
missing_text missing.Flush = codes "a flush of the byte after the host's write"
missing_text missing.Submit = codes "a submit after the host's write"
missing_text missing.Available = codes "a dependency that makes the write available"
missing_text missing.Order = codes "a dependency that orders the two accesses"
missing_text missing.Visible = codes "a dependency that makes the write visible to the later access"
missing_text missing.Wait = codes "a wait by the host"
missing_text missing.Invalidation = codes "an invalidation of the byte before the host's read"

-- The point of a node that is reported, after some words (profile).
abbrev pub node_text : List ℕ → Option Placed → List ℕ
node_text words None = []
node_text words (Some p) = words ++ point_called p.row.point

-- What is missing, after a word (profile).
abbrev pub missing_part : Links → List ℕ
missing_part l = codes "missing: " ++ missing_text l.missing

-- What flushes the write, and what makes it available (profile).
abbrev pub available_part : Links → List ℕ
available_part l = node_text (codes "; flushed by ") l.flush ++ node_text (codes "; made available by ") l.available

-- What makes it visible to the host, and what does so in time (profile).
abbrev pub visible_part : Links → List ℕ
visible_part l = node_text (codes "; made visible to the host by ") l.visible ++ node_text (codes "; in time for this access: ") l.awaited

-- What is said of links (profile).
abbrev pub links_text : Links → List ℕ
links_text l = missing_part l ++ (available_part l ++ visible_part l)

-- The line with them, where they are reported (profile).
abbrev pub links_line : Option Links → List ℕ
links_line None = []
links_line (Some l) = codes "  " ++ links_text l ++ codes "\n"

-- The member with them, where they are reported (profile).
abbrev pub links_member : Option Links → List ℕ
links_member None = []
links_member (Some l) = codes ",\"links\":\"" ++ links_text l ++ codes "\""
