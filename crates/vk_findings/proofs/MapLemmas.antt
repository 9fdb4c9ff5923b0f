-- How often what is mapped with a resource was mapped.
use Rattle.std.proofs.Common.{◌≡◌, ℕ, ◌+◌, ◌<◌, List, ◌∷◌, length, take, get_or, Bool, cond, Option, Some, None, ap, sym, ◌∙◌, add_comm, add-zero}
use Rattle.std.specs.Prelude.{if◌then◌else◌, count_by}
use Rattle.std.specs.List.{cons_option}
use Rattle.std.proofs.lemmas.List.Sums.{sum_by-cons}
use Rattle.vk_model.specs.declared.entry.Entry.{Entry}
use Rattle.vk_model.specs.Basics.{holds}
use Rattle.vk_model.specs.Trace.Point.{Past, Point, host_of, entries, on_host}
use Rattle.vk_model.specs.declared.point.Point.{Point as ProgramPoint}
use Rattle.vk_model.specs.Trace.PointViews.{point_of}
use Rattle.vk_queues.specs.PointViews.{past_of}
use Rattle.vk_hazards.proofs.PastLemmas.{past_item}
use Rattle.vk_findings.specs.Inner.Mapping.{counted, is_form}

module _ (past : Past) (form : Entry → Option ℕ) (k : ℕ) where
  counted_more : (seen : Past) (p : Point) → counted past form k (p ∷ seen) ≡ counted past form k seen + (if on_host (is_form past form k) p then 1 else 0)
  counted_more seen p = go (host_of p.action)
    where
      go : (o : Option Entry) → count_by (is_form past form k) (cons_option o (entries seen)) ≡ counted past form k seen + (if holds o (is_form past form k) then 1 else 0)
      go None = sym (add-zero _)
      go (Some x) = sum_by-cons (λ y. cond (is_form past form k y) 1 0) x (entries seen) ∙ add_comm _ _

  pub count_step : (ps : List ProgramPoint) (i : ℕ) (p : ProgramPoint) (b : Bool) (n m : ℕ) → i < length ps → p ≡ get_or ps i p → b ≡ on_host (is_form past form k) (point_of p)
      → n ≡ counted past form k (past_of (take i ps)) → m ≡ n + (if b then 1 else 0) → m ≡ counted past form k (past_of (take (i + 1) ps))
  count_step ps i p b n m lt is on before after =
      after ∙ ap (λ (t : Bool). n + (if t then 1 else 0)) on ∙ ap (λ (j : ℕ). j + (if on_host (is_form past form k) (point_of p) then 1 else 0)) before
      ∙ sym (counted_more (past_of (take i ps)) (point_of p)) ∙ ap (counted past form k) (sym (past_item ps i p lt is))
