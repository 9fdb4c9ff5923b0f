-- An open pass was begun.
use Rattle.std.proofs.Common.{◌≡◌, ℕ, ◌+◌, ◌<◌, [], ◌∷◌, Bool, true, false, cond, Option, Some, None, is_some, refl, sym, ◌∙◌, add_comm, add-zero, arith}
use Rattle.std.specs.Prelude.{if◌then◌else◌, count_by}
use Rattle.std.specs.List.{cons_option, find}
use Rattle.std.proofs.lemmas.List.Sums.{sum_by-cons}
use Rattle.std.proofs.lemmas.Bool.Decides.{nat_tests}
use Rattle.vk_model.specs.declared.entry.Entry.{Entry}
use Rattle.vk_model.specs.Basics.{holds}
use Rattle.vk_model.specs.Trace.Point.{Past, Point, host_of, entries, on_host}
use Rattle.vk_model.specs.Rules.Passes.{count_of, in_pass, begins, finishes}
use Rattle.vk_findings.specs.Defrags.{of_defrag, begins_pass}

module _ (form : Entry → Option ℕ) (d : ℕ) where
  count_more : (seen : Past) (p : Point) → count_of (p ∷ seen) d form ≡ count_of seen d form + (if on_host (of_defrag form d) p then 1 else 0)
  count_more seen p = go (host_of p.action)
    where
      go : (o : Option Entry) → count_by (of_defrag form d) (cons_option o (entries seen)) ≡ count_of seen d form + (if holds o (of_defrag form d) then 1 else 0)
      go None = sym (add-zero _)
      go (Some x) = sum_by-cons (λ y. cond (of_defrag form d y) 1 0) x (entries seen) ∙ add_comm _ _

-- where none began, no pass is counted
none_begun : (past : Past) (d : ℕ) → is_some (find (on_host (begins_pass d)) past) ≡ false → count_of past d begins ≡ 0
none_begun [] d e = refl
none_begun (p ∷ past) d e = count_more begins d past p ∙ go (on_host (begins_pass d) p) e (none_begun past d)
  where
    go : (b : Bool) → is_some (cond b (Some p) (find (on_host (begins_pass d)) past)) ≡ false → (is_some (find (on_host (begins_pass d)) past) ≡ false → count_of past d begins ≡ 0) → count_of past d begins + (if b then 1 else 0) ≡ 0
    go true e rest = absurd cc
    go false e rest = let none = rest e in omega arith

pub pass_begun : (past : Past) (d : ℕ) → in_pass past d ≡ true → is_some (find (on_host (begins_pass d)) past) ≡ true
pass_begun past d open_now = go (is_some (find (on_host (begins_pass d)) past)) refl
  where
    go : (b : Bool) → is_some (find (on_host (begins_pass d)) past) ≡ b → is_some (find (on_host (begins_pass d)) past) ≡ true
    go true e = e
    go false e = let none = none_begun past d e in let below : count_of past d finishes < count_of past d begins = grind (arith, nat_tests) in absurd (omega arith)
