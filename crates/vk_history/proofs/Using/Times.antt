-- How often commands name a resource.
use Rattle.std.proofs.Common.{◌≡◌, ◌+◌, ℕ, List, [], ◌∷◌, ◌++◌, cond, map, ◌==◌, refl, ap, sym, ◌∙◌, arith, Option, Some, None}
use Rattle.std.specs.Prelude.{count_by}
use Rattle.std.specs.List.{flat_map, enumerate_from}
use Rattle.std.proofs.lemmas.List.Sums.{sum_by-append}
use Rattle.vk_model.specs.declared.command.Cmd.{Cmd}
use Rattle.vk_model.specs.declared.command.Cmd.TheVariants as cmd
use Rattle.vk_model.specs.declared.command.Dependency.{Dependency}
use Rattle.vk_model.specs.declared.command.Element.{Element}
use Rattle.vk_model.specs.declared.command.Element.TheVariants as element
use Rattle.vk_model.specs.Basics.{option_list}
use Rattle.vk_model.specs.Trace.Point.{Run}
use Rattle.vk_model.specs.World.Ownership.{named_by, uses}
use Rattle.vk_model.specs.Sync.Node.{Depends, Barrier, Role, SetOf, AwaitOf}
use Rattle.vk_model.specs.Sync.Complete.{named_by_act}
use Rattle.vk_history.specs.Counted.{is_id}
use Rattle.vk_history.specs.Uses.{times_by, times_named}
use Rattle.vk_history.proofs.Living.Counting.{count-cons}

pub of_option : (r : ℕ) (o : Option ℕ) → count_by (λ i. r == i) (option_list o) ≡ cond (is_id r o) 1 0
of_option r None = refl
of_option r (Some i) = count-cons (λ i. r == i) i [] ∙ omega arith

-- of a barrier
pub of_elements : (r : ℕ) (es : List Element) → count_by (λ i. r == i) (flat_map named_by_act (map (Depends Barrier) es)) ≡ times_by r es
of_elements r [] = refl
of_elements r (e ∷ es) =
    sum_by-append (λ i. cond (r == i) 1 0) (option_list (named_by e)) (flat_map named_by_act (map (Depends Barrier) es))
    ∙ ap (λ n. n + count_by (λ i. r == i) (flat_map named_by_act (map (Depends Barrier) es))) (of_option r (named_by e))
    ∙ ap (λ n. cond (is_id r (named_by e)) 1 0 + n) (of_elements r es)
    ∙ sym (count-cons (λ e. is_id r (named_by e)) e es)

-- of two options
pub of_both : (r : ℕ) (o u : Option ℕ) (ids : List ℕ) → option_list o ++ option_list u ≡ ids → count_by (λ i. r == i) (ids ++ []) ≡ cond (is_id r o) 1 0 + cond (is_id r u) 1 0
of_both r o u ids is =
    ap (count_by (λ i. r == i)) (ap (λ (l : List ℕ). l ++ []) (sym is))
    ∙ sum_by-append (λ i. cond (r == i) 1 0) (option_list o ++ option_list u) []
    ∙ ap (λ n. n + 0) (sum_by-append (λ i. cond (r == i) 1 0) (option_list o) (option_list u) ∙ ap (λ n. n + count_by (λ i. r == i) (option_list u)) (of_option r o) ∙ ap (λ n. cond (is_id r o) 1 0 + n) (of_option r u))
    ∙ omega arith

-- elements of events name nothing
pub events_name : (role : ℕ → Role) (r : ℕ) (k : ℕ) (ms : List Dependency) → flat_map named_by_act (map (λ p. Depends (role p.0) (element.Memory p.1)) (enumerate_from k ms)) ≡ []
events_name role r k [] = refl
events_name role r k (m ∷ ms) = events_name role r (k + 1) ms

-- a command that is no barrier names what it uses
pub of_plain : (r : ℕ) (c : Cmd) → ((es : List Element) → c ≡ cmd.Barrier es → ⊥) → times_named r (Run c) ≡ count_by (λ i. r == i) (uses c ++ [])
of_plain r (cmd.Barrier es) other = absurd (other es refl)
of_plain r (cmd.Set v ms) other = ap (count_by (λ i. r == i)) (events_name (SetOf v) r 0 ms)
of_plain r (cmd.Await v ms) other = ap (count_by (λ i. r == i)) (events_name (AwaitOf v) r 0 ms)
of_plain r (cmd.Fill b o n w) other = refl
of_plain r (cmd.Update b o bytes) other = refl
of_plain r (cmd.Copy s d gs) other = refl
of_plain r (cmd.Clear i l color rs) other = refl
of_plain r (cmd.CopyIn b i l gs) other = refl
of_plain r (cmd.CopyOut i l b gs) other = refl
of_plain r (cmd.CopyImage s l d m gs) other = refl

pub of_barrier : (r : ℕ) (c : Cmd) (es fs : List Element) → c ≡ cmd.Barrier es → fs ≡ es → times_named r (Run c) ≡ times_by r fs
of_barrier r c es fs is same = ap (λ (d : Cmd). times_named r (Run d)) is ∙ of_elements r es ∙ ap (times_by r) (sym same)
