-- Points that are laid out one after another make the past of their batches.
use Rattle.std.proofs.Common.{◌≡◌, ◌≤◌, ◌<◌, ◌+◌, ℕ, suc, zero, List, [], ◌∷◌, ◌++◌, refl, ap, sym, ◌∙◌, drop, length, get_or, add-one, drop-cons, Option, Some, None}
use Rattle.std.proofs.lemmas.List.{drop_all}
use Rattle.std.proofs.lemmas.List.Sums.{fold-append}
use Rattle.vk_model.specs.declared.entry.Entry.{Entry}
use Rattle.vk_model.specs.Trace.Point.{Past, Action}
use Rattle.vk_model.specs.Trace.Order.{SubmittedBatch, Front, actions, next_batch, start_batch, settled, after_entry, order_from}
use Rattle.vk_model.specs.declared.point.Point.{Point}
use Rattle.vk_model.specs.Trace.PointViews.{point_of}
use Rattle.vk_queues.specs.PointViews.{past_after, add}
use Rattle.vk_queues.specs.Inner.Lined.{IsRising}
use Rattle.vk_queues.proofs.NextBatch.{next_waits, length_without, without}

pub past_after-push : (past : Past) (ps : List Point) (p : Point) → past_after past (ps ++ p ∷ []) ≡ point_of p ∷ past_after past ps
past_after-push past ps p = fold-append add past ps (p ∷ [])

pub actions-drop : {A : Type 0} (of : A → Action) (t : SubmittedBatch) (xs : List A) (k : ℕ) (d : A) (past : Past) → k < length xs → actions of t k (drop k xs) past ≡ actions of t (k + 1) (drop (k + 1) xs) (record { entry = t.entry; batch = t.batch; place = k; queue = t.queue; action = of (get_or xs k d) } ∷ past)
actions-drop of t xs k d past lt = let e : drop k xs ≡ get_or xs k d ∷ drop (k + 1) xs = rw (add-one, drop-cons xs k d) refl in rw e refl

pub actions-all : {A : Type 0} (of : A → Action) (t : SubmittedBatch) (xs : List A) (k : ℕ) (past : Past) → length xs ≤ k → actions of t k (drop k xs) past ≡ past
actions-all of t xs k past le = rw (drop_all k xs le) refl

-- what the loops over the waits, commands and signals of a batch go by
pub ruleset pushes = (actions-drop, actions-all, past_after-push)

-- ---- starts, one after another

-- where no batch can be started, all that can be are
pub settled_none : (n : ℕ) (f : Front) → next_batch f.past [] f.waiting ≡ None → settled n f ≡ f
settled_none zero f none = refl
settled_none (suc n) f none = ap (λ (o : Option SubmittedBatch). settled n (start_batch o f)) none ∙ settled_none n f none

pub settled_some : (f : Front) (t : SubmittedBatch) → IsRising f.waiting → next_batch f.past [] f.waiting ≡ Some t
    → let next : Front = start_batch (next_batch f.past [] f.waiting) f in settled (length next.waiting) next ≡ settled (length f.waiting) f
settled_some f t rising is =
    let size : length f.waiting ≡ suc (length (without t f.waiting)) = length_without f.waiting t rising (next_waits f.past [] f.waiting t is) in
    let left : length (start_batch (next_batch f.past [] f.waiting) f).waiting ≡ length (without t f.waiting) = ap (λ (o : Option SubmittedBatch). length (start_batch o f).waiting) is in
    ap (λ (n : ℕ). settled n (start_batch (next_batch f.past [] f.waiting) f)) left ∙ sym (ap (λ (n : ℕ). settled n f) size)

pub order_from-drop : (xs : List Entry) (k : ℕ) (d : Entry) (f : Front) → k < length xs → order_from k f (drop k xs) ≡ order_from (k + 1) (after_entry k (get_or xs k d) f) (drop (k + 1) xs)
order_from-drop xs k d f lt = let e : drop k xs ≡ get_or xs k d ∷ drop (k + 1) xs = rw (add-one, drop-cons xs k d) refl in rw e refl

pub order_from-all : (xs : List Entry) (k : ℕ) (f : Front) → length xs ≤ k → order_from k f (drop k xs) ≡ f
order_from-all xs k f le = rw (drop_all k xs le) refl
