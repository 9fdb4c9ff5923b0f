-- The table of rules: where each is, and how each is printed.
use Rattle.std.proofs.Common.{◌≡◌, ℕ, zero, suc, ◌+◌, map, List, refl, ap, sym, ◌∙◌, arith, Option, Some}
use Rattle.std.specs.Prelude.{option_map, slice_get, position}
use Rattle.std.specs.List.{range_with_len}
use Rattle.std.specs.Str.{bytes_eq}
use Rattle.std.proofs.lemmas.Option.{slice_get-map}
use Rattle.vk_model.specs.declared.rule.Rule.{Rule}
use Rattle.vk_model.specs.declared.rule.Rule.TheVariants as rule
use Rattle.vk_model.specs.Rules.Names.{rule_name}
use Rattle.vk_model.specs.Rules.Table.{rules}
use Rattle.vk_model.specs.Laws.{HasOnePlace}

-- the number of each rule in the table
number_of : Rule → ℕ
number_of rule.NewId = 0
number_of rule.LiveId = 1
number_of rule.Queue = 2
number_of rule.QueueKind = 3
number_of rule.Size = 4
number_of rule.Usage = 5
number_of rule.MemoryType = 6
number_of rule.MemorySize = 7
number_of rule.PoolSize = 8
number_of rule.BindRange = 9
number_of rule.BindAlign = 10
number_of rule.Aliased = 11
number_of rule.Range = 12
number_of rule.Align = 13
number_of rule.Overlap = 14
number_of rule.Format = 15
number_of rule.Subresource = 16
number_of rule.Stage = 17
number_of rule.Layout = 18
number_of rule.OldLayout = 19
number_of rule.OwnerWhole = 20
number_of rule.OwnerPair = 21
number_of rule.EventState = 22
number_of rule.EventDependency = 23
number_of rule.SignalValue = 24
number_of rule.SignalOrder = 25
number_of rule.WaitBeforeSignal = 26
number_of rule.WaitNever = 27
number_of rule.MapState = 28
number_of rule.HostVisible = 29
number_of rule.PoolKind = 30
number_of rule.PassState = 31
number_of rule.PassBusy = 32
number_of rule.PassWrite = 33
number_of rule.HazardWar = 34
number_of rule.HazardRaw = 35
number_of rule.HazardWaw = 36
number_of rule.InUse = 37
number_of rule.ReadUndefined = 38
number_of rule.Limit = 39

-- and the rule has that place
pub place_of : (r : Rule) → (k : ℕ) × (slice_get rules k ≡ Some r)
place_of rule.NewId = (0, refl)
place_of rule.LiveId = (1, refl)
place_of rule.Queue = (2, refl)
place_of rule.QueueKind = (3, refl)
place_of rule.Size = (4, refl)
place_of rule.Usage = (5, refl)
place_of rule.MemoryType = (6, refl)
place_of rule.MemorySize = (7, refl)
place_of rule.PoolSize = (8, refl)
place_of rule.BindRange = (9, refl)
place_of rule.BindAlign = (10, refl)
place_of rule.Aliased = (11, refl)
place_of rule.Range = (12, refl)
place_of rule.Align = (13, refl)
place_of rule.Overlap = (14, refl)
place_of rule.Format = (15, refl)
place_of rule.Subresource = (16, refl)
place_of rule.Stage = (17, refl)
place_of rule.Layout = (18, refl)
place_of rule.OldLayout = (19, refl)
place_of rule.OwnerWhole = (20, refl)
place_of rule.OwnerPair = (21, refl)
place_of rule.EventState = (22, refl)
place_of rule.EventDependency = (23, refl)
place_of rule.SignalValue = (24, refl)
place_of rule.SignalOrder = (25, refl)
place_of rule.WaitBeforeSignal = (26, refl)
place_of rule.WaitNever = (27, refl)
place_of rule.MapState = (28, refl)
place_of rule.HostVisible = (29, refl)
place_of rule.PoolKind = (30, refl)
place_of rule.PassState = (31, refl)
place_of rule.PassBusy = (32, refl)
place_of rule.PassWrite = (33, refl)
place_of rule.HazardWar = (34, refl)
place_of rule.HazardRaw = (35, refl)
place_of rule.HazardWaw = (36, refl)
place_of rule.InUse = (37, refl)
place_of rule.ReadUndefined = (38, refl)
place_of rule.Limit = (39, refl)

numbers : map number_of rules ≡ range_with_len 0 40
unfolding number_of
numbers = refl

range_at : (a n k v : ℕ) → slice_get (range_with_len a n) k ≡ Some v → v ≡ a + k
range_at a zero k v at = absurd cc
range_at a (suc n) zero v at = let same : a ≡ v = cc in omega arith
range_at a (suc n) (suc k) v at = let later = range_at (a + 1) n k v at in omega arith

-- so each rule is in the table once
number_at : (k : ℕ) (r : Rule) → slice_get rules k ≡ Some r → number_of r ≡ k
number_at k r at =
    let here : slice_get (range_with_len 0 40) k ≡ Some (number_of r) =
    ap (λ (xs : List ℕ). slice_get xs k) (sym numbers) ∙ slice_get-map number_of rules k ∙ ap (option_map number_of) at in
    let same = range_at 0 40 k (number_of r) here in omega arith

pub once : (r : Rule) (k l : ℕ) → slice_get rules k ≡ Some r → slice_get rules l ≡ Some r → k ≡ l
once r k l a b = sym (number_at k r a) ∙ number_at l r b

pub has_one_place : (r : Rule) → HasOnePlace r
has_one_place r = let at = place_of r in record { place = at.0; here = at.1; only = λ k here. once r k at.0 here at.1 }

-- ---- names

-- where a name is among the names of the table
name_place : List ℕ → Option ℕ
name_place name = position (λ other. bytes_eq other name) (map rule_name rules)

name_at : (r : Rule) → name_place (rule_name r) ≡ Some (number_of r)
unfolding name_place number_of
name_at rule.NewId = refl
name_at rule.LiveId = refl
name_at rule.Queue = refl
name_at rule.QueueKind = refl
name_at rule.Size = refl
name_at rule.Usage = refl
name_at rule.MemoryType = refl
name_at rule.MemorySize = refl
name_at rule.PoolSize = refl
name_at rule.BindRange = refl
name_at rule.BindAlign = refl
name_at rule.Aliased = refl
name_at rule.Range = refl
name_at rule.Align = refl
name_at rule.Overlap = refl
name_at rule.Format = refl
name_at rule.Subresource = refl
name_at rule.Stage = refl
name_at rule.Layout = refl
name_at rule.OldLayout = refl
name_at rule.OwnerWhole = refl
name_at rule.OwnerPair = refl
name_at rule.EventState = refl
name_at rule.EventDependency = refl
name_at rule.SignalValue = refl
name_at rule.SignalOrder = refl
name_at rule.WaitBeforeSignal = refl
name_at rule.WaitNever = refl
name_at rule.MapState = refl
name_at rule.HostVisible = refl
name_at rule.PoolKind = refl
name_at rule.PassState = refl
name_at rule.PassBusy = refl
name_at rule.PassWrite = refl
name_at rule.HazardWar = refl
name_at rule.HazardRaw = refl
name_at rule.HazardWaw = refl
name_at rule.InUse = refl
name_at rule.ReadUndefined = refl
name_at rule.Limit = refl

at_number : (r : Rule) → slice_get rules (number_of r) ≡ Some r
unfolding number_of
at_number rule.NewId = refl
at_number rule.LiveId = refl
at_number rule.Queue = refl
at_number rule.QueueKind = refl
at_number rule.Size = refl
at_number rule.Usage = refl
at_number rule.MemoryType = refl
at_number rule.MemorySize = refl
at_number rule.PoolSize = refl
at_number rule.BindRange = refl
at_number rule.BindAlign = refl
at_number rule.Aliased = refl
at_number rule.Range = refl
at_number rule.Align = refl
at_number rule.Overlap = refl
at_number rule.Format = refl
at_number rule.Subresource = refl
at_number rule.Stage = refl
at_number rule.Layout = refl
at_number rule.OldLayout = refl
at_number rule.OwnerWhole = refl
at_number rule.OwnerPair = refl
at_number rule.EventState = refl
at_number rule.EventDependency = refl
at_number rule.SignalValue = refl
at_number rule.SignalOrder = refl
at_number rule.WaitBeforeSignal = refl
at_number rule.WaitNever = refl
at_number rule.MapState = refl
at_number rule.HostVisible = refl
at_number rule.PoolKind = refl
at_number rule.PassState = refl
at_number rule.PassBusy = refl
at_number rule.PassWrite = refl
at_number rule.HazardWar = refl
at_number rule.HazardRaw = refl
at_number rule.HazardWaw = refl
at_number rule.InUse = refl
at_number rule.ReadUndefined = refl
at_number rule.Limit = refl

pub names_apart : (r s : Rule) → rule_name r ≡ rule_name s → r ≡ s
names_apart r s same =
    let places : Some (number_of r) ≡ Some (number_of s) = sym (name_at r) ∙ ap name_place same ∙ name_at s in
    let numbers_same : number_of r ≡ number_of s = cc in
    let both : Some r ≡ Some s = sym (at_number r) ∙ ap (slice_get rules) numbers_same ∙ at_number s in
    cc
