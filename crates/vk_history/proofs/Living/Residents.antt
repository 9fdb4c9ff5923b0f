-- The resources that are kept of pools, after a point.
use Rattle.std.proofs.Common.{◌≡◌, ◌==◌, ℕ, List, [], ◌∷◌, Bool, true, false, cond, refl, ap, sym, subst, Option, Some, None}
use Rattle.std.proofs.lemmas.Bool.{eqb-true, eq-eqb}
use Rattle.std.specs.Prelude.{Contains, option_and_then, if◌then◌else◌}
use Rattle.std.specs.Option.{option_map_or}
use Rattle.vk_model.specs.declared.entry.Entry.{Entry}
use Rattle.vk_model.specs.Basics.{holds}
use Rattle.vk_model.specs.Trace.Point.{Past, Point, Host}
use Rattle.vk_model.specs.Trace.Objects.{made, made_by, resource_in, pool_at}
use Rattle.vk_history.specs.declared.residents.Residents.{Residents}
use Rattle.vk_history.specs.Residents.{AreResidents, ResideBy, residents_at}

-- an id that is this one
pub named : (o : Option ℕ) (r : ℕ) → holds o (λ j. r == j) ≡ true → o ≡ Some r
named None r h = absurd cc
named (Some j) r h = ap (λ (k : ℕ). Some k) (sym (eqb-true r j h))

module _ (past : Past) (p : Point) (old new : Residents) where
  -- the pool of what an entry creates, where it creates the id, else the pool of what did so before
  abbrev pool_now : Entry → ℕ → Bool → Option ℕ
  pool_now x r b = option_and_then (λ s. pool_at s.place) (option_and_then resource_in (cond b (Some x) (made past r)))

  pub host_resides : (x : Entry) → p.action ≡ Host x → ResideBy x old new → AreResidents old past → AreResidents new (p ∷ past)
  host_resides x is by are r q has = go (holds (made_by x) (λ j. r == j)) refl (rw is at has) where
    go : (b : Bool) → holds (made_by x) (λ j. r == j) ≡ b → pool_now x r b ≡ Some q → Contains (residents_at new q) r
    go true here at = by.here r q (named (made_by x) r here) at
    go false here at = by.kept q r (are r q at)

-- a table of lists where one list is replaced
module _ {A : Type 0} (items : A → List ℕ) (new old : ℕ → Option A) (id : ℕ) (next : A) (is : (i : ℕ) → new i ≡ (if i == id then Some next else old i)) where
  abbrev list_at : Option A → List ℕ
  list_at o = option_map_or items o []

  pub entered : (r : ℕ) → Contains (items next) r → Contains (list_at (new id)) r
  entered r has = subst (λ (o : Option A). Contains (list_at o) r) (sym (is id)) (go (id == id) (eq-eqb id id refl)) where
    go : (b : Bool) → b ≡ true → Contains (list_at (if b then Some next else old id)) r
    go true e = has
    go false e = absurd cc

  pub stays : ((r : ℕ) → Contains (list_at (old id)) r → Contains (items next) r) → (q r : ℕ) → Contains (list_at (old q)) r → Contains (list_at (new q)) r
  stays more q r has = subst (λ (o : Option A). Contains (list_at o) r) (sym (is q)) (go (q == id) refl) where
    go : (b : Bool) → (q == id) ≡ b → Contains (list_at (if b then Some next else old q)) r
    go true e = more r (subst (λ (k : ℕ). Contains (list_at (old k)) r) (eqb-true q id e) has)
    go false e = has
