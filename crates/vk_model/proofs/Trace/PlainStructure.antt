-- The plain order is an ordered past too. Other crates cite it.
use Rattle.std.proofs.Common.{◌≡◌, ℕ, suc, ◌+◌, List, [], ◌∷◌, length, Some, refl, ap, sym, ◌∙◌, subst, arith, slice_get}
use Rattle.std.specs.Prelude.{Contains}
use Rattle.std.specs.List.{fold}
use Rattle.vk_model.specs.declared.entry.Batch.{Batch}
use Rattle.vk_model.specs.declared.entry.Entry.{Entry}
use Rattle.vk_model.specs.declared.entry.Entry.TheVariants as entry
use Rattle.vk_model.specs.Trace.Point.{Point, Past, entries}
use Rattle.vk_model.specs.Trace.Order.{SubmittedBatch, host, started, submitted_batch, batches_from, batches_of, plain_from, plain_order}
use Rattle.vk_model.specs.Trace.Structure.{IsOrdered}
use Rattle.vk_model.proofs.Lists.Members.{contains-head}
use Rattle.vk_model.proofs.Trace.Growing.{Grows, Quiet, On, grows_too, same_entries, started_grows, still_has}
use Rattle.vk_model.proofs.Trace.Structure.{Low, entry_low, batch_low, turn_low, place_low, Reaches, started_reach, new_low}

next_batch_low : (p : Point) (e k r n : ℕ) → Low p e k r n → Low p e (k + 1) 0 0
next_batch_low p e k r n (entry_low x) = entry_low x
next_batch_low p e k r n (batch_low x y) = batch_low x (omega (arith, y))
next_batch_low p e k r n (turn_low x y z) = batch_low x (omega (arith, y))
next_batch_low p e k r n (place_low x y z w) = batch_low x (omega (arith, y))

-- an ordered past with so many entries
record Counted (e : ℕ) (past : Past) : Type 0 where
  pub ordered : IsOrdered past
  pub count : length (entries past) ≡ e

-- the next batch of a submit is number k
record Submits (e q : ℕ) (all : List Batch) (k : ℕ) (past : Past) : Type 0 where
  pub counted : Counted (e + 1) past
  pub submitted : Contains past (host e (entry.Submit q all))
  pub low : (p : Point) → Contains past p → Quiet p → p.queue ≡ q → Low p e k 0 0

batches_counted : (before : Past) (e q : ℕ) (all : List Batch) (k : ℕ) (bs : List Batch) (past : Past) → ((j : ℕ) (b : Batch) → slice_get bs j ≡ Some b → slice_get all (k + j) ≡ Some b)
    → Submits e q all k past → Counted (e + 1) (fold (λ p t. started t p) past (batches_from before e q k bs))
batches_counted before e q all k [] past has s = s.counted
batches_counted before e q all k (b ∷ bs) past has s =
    batches_counted before e q all (k + 1) bs (started t past) (λ j c h. subst (λ (n : ℕ). slice_get all n ≡ Some c) (let same : k + suc j ≡ (k + 1) + j = omega arith in same) (has (suc j) c h)) (record {
      counted = record { ordered = reached.ordered; count = ap length (same_entries past (started t past) (grows_too (On q) Quiet (λ p h. h.0) past (started t past) grown)) ∙ s.counted.count };
      submitted = still_has (On q) past (started t past) grown (host e (entry.Submit q all)) s.submitted;
      low = λ p c quiet on. next_batch_low p e k 2 _ (reached.low p c quiet on);
    })
  where
    t : SubmittedBatch
    t = submitted_batch before e q k b

    grown : Grows (On q) past (started t past)
    grown = started_grows t past

    reached : Reaches t (started t past) 2 (0 + length b.signals)
    reached = started_reach t past (record {
      ordered = s.counted.ordered;
      batches = all;
      submitted = s.submitted;
      listed = subst (λ (n : ℕ). slice_get all n ≡ Some b) (let same : k + 0 ≡ k = omega arith in same) (has 0 b refl);
      low = s.low;
    })

entry_counted : (e : ℕ) (past : Past) (x : Entry) → Counted e past → Counted (e + 1) (fold (λ p t. started t p) (host e x ∷ past) (batches_of past e x))
entry_counted e past x c = go x
  where
    with_host : (y : Entry) → Counted (e + 1) (host e y ∷ past)
    with_host y = record { ordered = (ap (λ (n : ℕ). host n y) (sym c.count), c.ordered); count = let size = c.count in omega (arith, size) }

    go : (y : Entry) → Counted (e + 1) (fold (λ p t. started t p) (host e y ∷ past) (batches_of past e y))
    go (entry.Submit q bs) = batches_counted past e q bs 0 bs (host e (entry.Submit q bs) ∷ past) (λ j b h. subst (λ (n : ℕ). slice_get bs n ≡ Some b) (let same : j ≡ 0 + j = omega arith in same) h) (record {
      counted = with_host (entry.Submit q bs);
      submitted = contains-head (host e (entry.Submit q bs)) past;
      low = λ p at quiet on. new_low past c.ordered e q c.count bs 0 p at quiet;
    })
    go y = with_host y

entries_counted : (e : ℕ) (xs : List Entry) (past : Past) → Counted e past → Counted (e + length xs) (plain_from e past xs)
entries_counted e [] past c = subst (λ (n : ℕ). Counted n past) (let same : e ≡ e + 0 = omega arith in same) c
entries_counted e (x ∷ xs) past c =
    let next : Past = fold (λ p t. started t p) (host e x ∷ past) (batches_of past e x) in
    subst (λ (n : ℕ). Counted n (plain_from (e + 1) next xs)) (let same : (e + 1) + length xs ≡ e + suc (length xs) = omega arith in same) (entries_counted (e + 1) xs next (entry_counted e past x c))

pub plain_ordered : (t : List Entry) → IsOrdered (plain_order t)
plain_ordered t = (entries_counted 0 t [] (record { ordered = tt; count = refl })).ordered
