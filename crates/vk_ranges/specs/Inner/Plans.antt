-- Plans: what becomes of the runs of a range, by their ends.
use Rattle.std.specs.Prelude.{ℕ, ◌≡◌, ◌≢◌, ◌<◌, ◌≤◌, List, [], ◌∷◌, map, Option, Some, None}
use Rattle.std.specs.Ordering.{nat_cmp}
use Rattle.std.specs.Map.{remove_entry, set_value}
use Rattle.std.specs.BTreeMap.{insert_entry, is_at}
use Rattle.vk_ranges.specs.Runs.{IsTiling, IsMaximal, value_at}
use Rattle.vk_ranges.specs.declared.changes.Change.{Change}
use Rattle.vk_ranges.specs.declared.changes.Edge.{Edge}
use Rattle.vk_ranges.specs.declared.changes.Edge.TheVariants.{Stays, Goes, Becomes, New}
use Rattle.vk_ranges.specs.declared.changes.Plan.{Plan}

module _ {T : Type 0} where
  -- The runs with this one in front, where it has a value. (profile)
  abbrev pub with_run : ℕ → Option T → List (ℕ × T) → List (ℕ × T)
  with_run end None runs = runs
  with_run end (Some value) runs = (end, value) ∷ runs

  -- The runs that changes make. (profile)
  abbrev pub runs_of : List (Change T) → List (ℕ × T)
  runs_of [] = []
  runs_of (change ∷ plan) = with_run change.end change.value (runs_of plan)

  -- The ends that changes speak of. (profile)
  abbrev pub ends_of : List (Change T) → List ℕ
  ends_of plan = map (λ change. change.end) plan

  -- The ends of runs. (profile)
  abbrev pub run_ends : List (ℕ × T) → List ℕ
  run_ends runs = map (λ run. run.0) runs

  -- One change, in the entries of a map. (profile)
  abbrev pub changed : ℕ → Option T → List (ℕ × T) → List (ℕ × T)
  changed end None runs = remove_entry (is_at (nat_cmp end)) runs
  changed end (Some value) runs = set_value (is_at (nat_cmp end)) runs value

  -- Changes one after another, in the entries of a map. (profile)
  abbrev pub applied : List (Change T) → List (ℕ × T) → List (ℕ × T)
  applied [] runs = runs
  applied (change ∷ plan) runs = applied plan (changed change.end change.value runs)

  -- An edge changed, in the entries of a map. (profile)
  abbrev pub edged : ℕ → Edge T → List (ℕ × T) → List (ℕ × T)
  edged at Stays runs = runs
  edged at Goes runs = remove_entry (is_at (nat_cmp at)) runs
  edged at (Becomes value) runs = set_value (is_at (nat_cmp at)) runs value
  edged at (New value) runs = insert_entry nat_cmp runs at value

  -- Both edges changed: a new end at the second one comes first. (profile)
  abbrev pub both_edged : ℕ → Edge T → ℕ → Edge T → List (ℕ × T) → List (ℕ × T)
  both_edged low at_low high Stays runs = edged low at_low runs
  both_edged low at_low high Goes runs = edged high Goes (edged low at_low runs)
  both_edged low at_low high (Becomes value) runs = edged high (Becomes value) (edged low at_low runs)
  both_edged low at_low high (New value) runs = edged low at_low (edged high (New value) runs)

  -- A whole plan, in the entries of a map. (profile)
  abbrev pub carried_out : ℕ → ℕ → Plan T → List (ℕ × T) → List (ℕ × T)
  carried_out low high plan runs = applied plan.changes.items (both_edged low plan.at_low high plan.at_high runs)

  -- A new end can be taken back. (profile)
  abbrev pub CanBeUndone : ℕ → Edge T → List (ℕ × T) → Type 0
  CanBeUndone at Stays runs = Unit {0}
  CanBeUndone at Goes runs = Unit {0}
  CanBeUndone at (Becomes value) runs = Unit {0}
  CanBeUndone at (New value) runs = remove_entry (is_at (nat_cmp at)) (insert_entry nat_cmp runs at value) ≡ runs

  -- The runs of `low..high` are new ones, and all others are as they were. (profile)
  pub record IsRewritten (low high len : ℕ) (old new runs : List (ℕ × T)) : Type 0 where
    pub tiling : IsTiling 0 len new
    pub maximal : IsMaximal new
    pub before : (index : ℕ) → index < low → value_at new index ≡ value_at old index
    pub inside : (index : ℕ) → low ≤ index → index < high → value_at new index ≡ value_at runs index
    pub after : (index : ℕ) → high ≤ index → value_at new index ≡ value_at old index

  -- A plan that can be carried out, and makes these runs of `low..high`. (profile)
  pub record Makes (low high : ℕ) (old : List (ℕ × T)) (plan : Plan T) (runs : List (ℕ × T)) : Type 0 where
    pub undone : CanBeUndone high plan.at_high old
    pub rewrites : (len : ℕ) → IsTiling 0 len old → high ≤ len → IsRewritten low high len old (carried_out low high plan old) runs

  -- A value before another one stays, where it is another value. (profile)
  abbrev pub IsKept : T → T → Option T → Type 0
  IsKept value next None = value ≡ next
  IsKept value next (Some kept) = (kept ≡ value) × (value ≢ next)
