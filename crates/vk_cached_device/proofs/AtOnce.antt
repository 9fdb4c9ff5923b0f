-- An entry that may be applied is applied at once, by a scheduler that picks the last option first.
use Rattle.std.proofs.Common.{◌≡◌, ℕ, zero, suc, ◌+◌, ◌<◌, List, [], ◌∷◌, ◌++◌, length, Bool, true, false, nat_lt, refl, ap, sym, ◌∙◌, subst, append-nil, IsTrue}
use Rattle.std.specs.Prelude.{if◌then◌else◌}
use Rattle.vk_model.specs.declared.entry.Entry.{Entry}
use Rattle.vk_model.specs.Run.Runs.{Step, Stage, Apply, offered, parts_left, may_go, applied, atom_count}
use Rattle.vk_model.specs.Run.Picks.{Picked, before_entry, entry_picks, atom_picks}
use Rattle.vk_resources.specs.declared.applied.Applied.{Applied}
use Rattle.vk_resources.specs.declared.applied.Applied.TheVariants as done
use Rattle.vk_device.specs.declared.device.Device.{Device}
use Rattle.vk_device.specs.Becomes.{Becomes, memory_after}
use Rattle.vk_device.specs.Led.{Led, IsBefore, Applies, ChangesBytes}
use Rattle.vk_device.specs.Passes.{moved_by, parts_begun}
use Rattle.vk_cached_device.specs.Directly.{last_first, rest_after}
use Rattle.vk_cached_device.specs.Inner.{PlainEntry, PlainRefused, PlainBy, PlainNext}
use Rattle.vk_cached_device.proofs.Directing.{flagged, nothing_before, same_atoms}

-- what is held behind the flag
abbrev second : List ℕ → ℕ
second (x ∷ y ∷ xs) = y
second _ = 0

abbrev rest : List ℕ → List ℕ
rest (x ∷ y ∷ xs) = xs
rest _ = []

tail_same : (flag : Bool) (name other : ℕ) (a b : List ℕ) → flagged flag other a ≡ 0 ∷ name ∷ b → a ≡ b
tail_same flag name other a b e = ap (λ (l : List ℕ). rest l) e

module _ (answer : List ℕ → ℕ → ℕ) (next : List ℕ → ℕ → List ℕ) (held : List ℕ) (x : Entry) (old new : Device) (after : List ℕ) (last flag : Bool) (name other : ℕ) (last_is : (t : List Entry) (steps : List Step) (s : Stage) → Led t steps s old → last ≡ nat_lt 0 (length (offered s.front.past s.done) + length (parts_left s))) where
  module _ (t : List Entry) (steps : List Step) (s : Stage) (xs : List Entry) (is : IsBefore t steps s x xs old) (may : may_go s x ≡ true) where
    none : before_entry (last_first answer) (rest_after next) s (flagged last name held) x ≡ record { steps = []; stage = s; held = 0 ∷ name ∷ held }
    none = nothing_before answer next s x may name held last (last_is t steps s is.led)

    -- the entry alone, with the atoms that the other picks
    alone : (parts : ℕ) → entry_picks (last_first answer) (rest_after next) parts s (flagged last name held) x xs
        ≡ record { steps = Apply (atom_picks answer next (atom_count s.front.past x) 0 held).0 parts ∷ []; stage = applied s parts x xs; held = 0 ∷ name ∷ (atom_picks answer next (atom_count s.front.past x) 0 held).1 }
    alone parts =
        ap (λ (b : Picked). with_atoms b (atom_picks (last_first answer) (rest_after next) (atom_count b.stage.front.past x) 0 b.held)) none
        ∙ ap (λ (a : List ℕ × List ℕ). record { steps = Apply a.0 parts ∷ []; stage = applied s parts x xs; held = a.1 }) (same_atoms answer next name (atom_count s.front.past x) 0 held)
      where
        with_atoms : Picked → List ℕ × List ℕ → Picked
        with_atoms b a = record { steps = b.steps ++ Apply a.0 parts ∷ []; stage = applied b.stage parts x xs; held = a.1 }

    entry : (let p = entry_picks (last_first answer) (rest_after next) (parts_begun new.passes x) s (flagged last name held) x xs in Led t (steps ++ p.steps) p.stage new × (flagged flag other after ≡ p.held))
        → Becomes old.resources new.resources (memory_after s.front.past (moved_by old.passes x new.passes) x (entry_picks (last_first answer) (rest_after next) (parts_begun new.passes x) s (flagged last name held) x xs).steps) → PlainEntry answer next t steps s held x xs old new after
    entry applies bytes =
        let led = subst (λ (p : Picked). Led t (steps ++ p.steps) p.stage new × (flagged flag other after ≡ p.held)) (alone (parts_begun new.passes x)) applies in
        record {
          led = led.0;
          holds = tail_same flag name other after (atom_picks answer next (atom_count s.front.past x) 0 held).1 led.1;
          becomes = subst (λ (p : Picked). Becomes old.resources new.resources (memory_after s.front.past (moved_by old.passes x new.passes) x p.steps)) (alone (parts_begun new.passes x)) bytes;
        }

    plain_by : (a : Applied) → Applies (last_first answer) (rest_after next) a t steps s (flagged last name held) x xs new (flagged flag other after) → ChangesBytes (last_first answer) (rest_after next) a s (flagged last name held) x xs old new → PlainBy answer next a t steps s held x xs old new after
    plain_by done.NoRoom applies bytes = refused (subst (λ (p : Picked). Led t (steps ++ p.steps) p.stage new × (flagged flag other after ≡ p.held)) none applies) (subst (λ (p : Picked). Becomes old.resources new.resources (memory_after s.front.past [] x p.steps)) none bytes)
      where
        refused : Led t (steps ++ []) s new × (flagged flag other after ≡ 0 ∷ name ∷ held) → Becomes old.resources new.resources (λ m. m) → PlainRefused answer next t steps s held old new after
        refused led becomes = record { led = subst (λ (l : List Step). Led t l s new) (append-nil steps) led.0; holds = tail_same flag name other after held led.1; becomes = becomes }
    plain_by done.Done applies bytes = entry applies bytes
    plain_by (done.Bytes b) applies bytes = entry applies bytes

  pub plain_next : (a : Applied) → ((t : List Entry) (steps : List Step) (s : Stage) (xs : List Entry) → IsBefore t steps s x xs old → Applies (last_first answer) (rest_after next) a t steps s (flagged last name held) x xs new (flagged flag other after))
      → ((t : List Entry) (steps : List Step) (s : Stage) (xs : List Entry) → IsBefore t steps s x xs old → ChangesBytes (last_first answer) (rest_after next) a s (flagged last name held) x xs old new) → PlainNext answer next a held x old new after
  plain_next a applies bytes t steps s xs is may = plain_by t steps s xs is may a (applies t steps s xs is) (bytes t steps s xs is)

  -- and it has the same other one
  module _ (t : List Entry) (steps : List Step) (s : Stage) (xs : List Entry) (is : IsBefore t steps s x xs old) (may : may_go s x ≡ true) where
    pub name_kept : (a : Applied) → Applies (last_first answer) (rest_after next) a t steps s (flagged last name held) x xs new (flagged flag other after) → name ≡ other
    name_kept done.NoRoom applies = ap (λ (l : List ℕ). second l) (sym (applies.1 ∙ ap (λ (p : Picked). p.held) (none t steps s xs is may)))
    name_kept done.Done applies = ap (λ (l : List ℕ). second l) (sym (applies.1 ∙ ap (λ (p : Picked). p.held) (alone t steps s xs is may (parts_begun new.passes x))))
    name_kept (done.Bytes b) applies = ap (λ (l : List ℕ). second l) (sym (applies.1 ∙ ap (λ (p : Picked). p.held) (alone t steps s xs is may (parts_begun new.passes x))))
