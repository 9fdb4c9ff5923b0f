-- In a past without a fault an event was set once at most.
use Rattle.std.proofs.Common.{◌≡◌, ℕ, List, [], ◌∷◌, length, Bool, true, false, not, ◌==◌, refl, ap, sym, subst, ◌∙◌, Option, Some, None, arith}
use Rattle.std.specs.Prelude.{Contains, nat_lt, if◌then◌else◌, option_map, option_and_then, is_some}
use Rattle.std.specs.List.{list_any, cons_option}
use Rattle.std.specs.Option.{option_or}
use Rattle.std.proofs.lemmas.Bool.{false_from_ne_true, eqb-true}
use Rattle.std.proofs.lemmas.Bool.Decides.{nat_tests}
use Rattle.std.proofs.Math.Bool.{or-false}
use Rattle.vk_model.specs.declared.command.Cmd.{Cmd}
use Rattle.vk_model.specs.declared.command.Cmd.TheVariants as cmd
use Rattle.vk_model.specs.declared.command.Dependency.{Dependency}
use Rattle.vk_model.specs.declared.rule.Rule.TheVariants as rule
use Rattle.vk_model.specs.Basics.{holds, option_list}
use Rattle.vk_model.specs.Trace.Point.{Past, Point, Action, Host, Wait, Run, Signal, command_of}
use Rattle.vk_model.specs.Rules.Synchronization.{set_by, sets, on_queue, bad_event, breaks_event_state, same_dependencies}
use Rattle.vk_model.specs.Rules.Table.{fault, breaks}
use Rattle.vk_model.specs.Rules.Fault.{newest, older, IsUnbroken}
use Rattle.vk_model.proofs.Lists.Members.{none_in, only_one}
use Rattle.vk_model.proofs.Rules.Fault.{unbroken_of_none}
use Rattle.vk_history.specs.Made.{Set, last_set}

-- a set of an event that was set breaks its rule
fresh : (past : Past) (p : Point) (v : ℕ) (ms : List Dependency) → breaks_event_state past p ≡ false → option_and_then (set_by v) (command_of p.action) ≡ Some ms → length (sets past v) ≡ 0
fresh past p v ms unbroken is = go p.action unbroken is where
  by_command : (c : Cmd) → bad_event past p.queue c ≡ false → set_by v c ≡ Some ms → length (sets past v) ≡ 0
  by_command (cmd.Set u es) ok is = at (v == u) refl is where
    at : (t : Bool) → (v == u) ≡ t → (if t then Some es else None) ≡ Some ms → length (sets past v) ≡ 0
    at true same e = none (length (sets past v)) (ap (λ k. nat_lt 0 (length (sets past k))) (eqb-true v u same) ∙ ok) where
      none : (n : ℕ) → nat_lt 0 n ≡ false → n ≡ 0
      none n e = grind (arith, nat_tests)
    at false same e = absurd cc
  by_command (cmd.Await u es) ok is = absurd cc
  by_command (cmd.Barrier es) ok is = absurd cc
  by_command (cmd.Fill b o n w) ok is = absurd cc
  by_command (cmd.Update b o bytes) ok is = absurd cc
  by_command (cmd.Copy s d gs) ok is = absurd cc
  by_command (cmd.Clear i l color rs) ok is = absurd cc
  by_command (cmd.CopyIn b i l gs) ok is = absurd cc
  by_command (cmd.CopyOut i l b gs) ok is = absurd cc
  by_command (cmd.CopyImage s l d m gs) ok is = absurd cc

  go : (d : Action) → holds (command_of d) (bad_event past p.queue) ≡ false → option_and_then (set_by v) (command_of d) ≡ Some ms → length (sets past v) ≡ 0
  go (Run c) ok is = by_command c ok is
  go (Host x) ok is = absurd cc
  go (Wait s) ok is = absurd cc
  go (Signal s) ok is = absurd cc

none_left : {A : Type 0} (xs : List A) → length xs ≡ 0 → xs ≡ []
none_left [] e = refl
none_left (x ∷ xs) e = absurd (omega (arith, e))

abbrev listed : Option Set → List (List Dependency)
listed o = option_list (option_map (λ s. s.elements) o)

sets_are : (past : Past) (v : ℕ) → IsUnbroken past → sets past v ≡ listed (last_set past v)
unfolding breaks
sets_are [] v sound = refl
sets_are (p ∷ past) v sound = go (option_and_then (set_by v) (command_of p.action)) refl (sets_are past v (λ b q r h. sound b q r (older h.0, h.1))) where
  unbroken : breaks_event_state past p ≡ false
  unbroken = false_from_ne_true (breaks_event_state past p) (λ h. sound past p rule.EventState (newest, h))

  go : (o : Option (List Dependency)) → option_and_then (set_by v) (command_of p.action) ≡ o → sets past v ≡ listed (last_set past v)
      → cons_option o (sets past v) ≡ listed (option_or (option_map (λ ms. record { queue = p.queue; elements = ms }) o) (last_set past v))
  go None e rest = rest
  go (Some ms) e rest = ap (λ (l : List (List Dependency)). ms ∷ l) (none_left (sets past v) (fresh past p v ms unbroken e))

-- those on a queue
abbrev chosen : ℕ → Option Set → List (List Dependency)
chosen q o = option_list (option_and_then (λ s. if s.queue == q then Some s.elements else None) o)

sets_on : (past : Past) (q v : ℕ) → IsUnbroken past → sets (on_queue q past) v ≡ chosen q (last_set past v)
unfolding breaks
sets_on [] q v sound = refl
sets_on (p ∷ past) q v sound = go (p.queue == q) refl (option_and_then (set_by v) (command_of p.action)) refl (sets_on past q v (λ b q r h. sound b q r (older h.0, h.1))) where
  unbroken : breaks_event_state past p ≡ false
  unbroken = false_from_ne_true (breaks_event_state past p) (λ h. sound past p rule.EventState (newest, h))

  unset : (ms : List Dependency) → option_and_then (set_by v) (command_of p.action) ≡ Some ms → last_set past v ≡ None
  unset ms e = at (last_set past v) (sym (none_left (sets past v) (fresh past p v ms unbroken e)) ∙ sets_are past v (λ b q r h. sound b q r (older h.0, h.1))) where
    at : (o : Option Set) → [] ≡ listed o → o ≡ None
    at None e = refl
    at (Some s) e = absurd cc

  go : (t : Bool) → (p.queue == q) ≡ t → (o : Option (List Dependency)) → option_and_then (set_by v) (command_of p.action) ≡ o → sets (on_queue q past) v ≡ chosen q (last_set past v)
      → sets (if t then p ∷ on_queue q past else on_queue q past) v ≡ chosen q (option_or (option_map (λ ms. record { queue = p.queue; elements = ms }) o) (last_set past v))
  go true on None e rest = rw e rest
  go false off None e rest = rest
  go true on (Some ms) e rest = rw (e, on) (ap (λ (l : List (List Dependency)). ms ∷ l) (rest ∙ ap (chosen q) (unset ms e)))
  go false off (Some ms) e rest = rw off (rest ∙ ap (chosen q) (unset ms e))

module _ (past : Past) (none : fault past ≡ None) where
  pub was_set : (v : ℕ) → nat_lt 0 (length (sets past v)) ≡ is_some (last_set past v)
  was_set v = rw (sets_are past v (unbroken_of_none past none)) (go (last_set past v)) where
    go : (o : Option Set) → nat_lt 0 (length (listed o)) ≡ is_some o
    go None = refl
    go (Some s) = refl

  pub was_set_on : (q v : ℕ) → (length (sets (on_queue q past) v) == 0) ≡ not (holds (last_set past v) (λ s. s.queue == q))
  was_set_on q v = rw (sets_on past q v (unbroken_of_none past none)) (go (last_set past v)) where
    pick : (s : Set) (t : Bool) → (length (option_list (if t then Some s.elements else None)) == 0) ≡ not t
    pick s true = refl
    pick s false = refl

    go : (o : Option Set) → (length (option_list (option_and_then (λ s. if s.queue == q then Some s.elements else None) o)) == 0) ≡ not (holds o (λ s. s.queue == q))
    go None = refl
    go (Some s) = pick s (s.queue == q)

  pub was_set_with : (v : ℕ) (ms : List Dependency) → list_any (same_dependencies ms) (sets past v) ≡ holds (last_set past v) (λ s. same_dependencies ms s.elements)
  was_set_with v ms = rw (sets_are past v (unbroken_of_none past none)) (go (last_set past v)) where
    go : (o : Option Set) → list_any (same_dependencies ms) (listed o) ≡ holds o (λ s. same_dependencies ms s.elements)
    go None = refl
    go (Some s) = or-false _

  -- the elements that it was set with are those of the last set
  pub only_set : (v : ℕ) (s : Set) → Some s ≡ last_set past v → (es : List Dependency) → Contains (sets past v) es → s.elements ≡ es
  only_set v s last es there = only_one s.elements es (subst (λ (l : List (List Dependency)). Contains l es) (sets_are past v (unbroken_of_none past none) ∙ ap listed (sym last)) there)

  pub never_set : (v : ℕ) → None ≡ last_set past v → (es : List Dependency) → Contains (sets past v) es → ⊥
  never_set v last es there = none_in es (subst (λ (l : List (List Dependency)). Contains l es) (sets_are past v (unbroken_of_none past none) ∙ ap listed (sym last)) there)

pub some_map : {A B : Type 0} (f : A → B) (o : Option A) → is_some (option_map f o) ≡ is_some o
some_map f None = refl
some_map f (Some a) = refl
