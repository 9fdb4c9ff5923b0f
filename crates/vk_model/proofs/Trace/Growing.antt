-- An order grows at its front, by points that come. Other crates cite it.
use Rattle.std.proofs.Common.{◌≡◌, ⊎_elim, ◌⊎◌, inl, inr, ℕ, zero, suc, ◌+◌, List, [], ◌∷◌, ◌++◌, length, Option, Some, None, refl, ap, sym, ◌∙◌, subst, arith}
use Rattle.std.specs.Prelude.{Contains}
use Rattle.std.proofs.lemmas.List.{append_assoc}
use Rattle.std.proofs.lemmas.List.Elements.{Contains-append_cases, Contains-append_right}
use Rattle.vk_model.specs.declared.entry.Entry.{Entry}
use Rattle.vk_model.specs.Trace.Point.{Point, Past, Action, Wait, Run, Signal, host_of, entries}
use Rattle.vk_model.specs.Trace.Order.{SubmittedBatch, Front, host, actions, started, batches_of, next_batch, start_batch, settled, after_entry, order_from}
use Rattle.vk_model.proofs.Lists.Pairs.{Each, each_append, each_map, each_has}

-- ---- a past that grows by points that pass

pub record Grows (P : Point → Type 0) (past all : Past) : Type 0 where
  pub newer : List Point
  pub whole : all ≡ newer ++ past
  pub each : Each P newer

pub stays : (P : Point → Type 0) (past : Past) → Grows P past past
stays P past = record { newer = []; whole = refl; each = tt }

pub one_more : (P : Point → Type 0) (past : Past) (p : Point) → P p → Grows P past (p ∷ past)
one_more P past p h = record { newer = p ∷ []; whole = refl; each = (h, tt) }

pub grows_on : (P : Point → Type 0) (past middle all : Past) → Grows P past middle → Grows P middle all → Grows P past all
grows_on P past middle all g h = record {
  newer = h.newer ++ g.newer;
  whole = h.whole ∙ ap (λ (l : Past). h.newer ++ l) g.whole ∙ sym (append_assoc h.newer g.newer past);
  each = each_append P h.newer g.newer h.each g.each;
}

pub grows_too : (P Q : Point → Type 0) → ((p : Point) → P p → Q p) → (past all : Past) → Grows P past all → Grows Q past all
grows_too P Q f past all g = record { newer = g.newer; whole = g.whole; each = each_map P Q g.newer f g.each }

-- a point of a past that grew is old, or passes
pub old_or_new : (P : Point → Type 0) (past all : Past) → Grows P past all → (p : Point) → Contains all p → Contains past p ⊎ P p
old_or_new P past all g p c =
    ⊎_elim (λ new. inr (each_has P g.newer p g.each new)) (λ old. inl old)
    (Contains-append_cases g.newer past p (subst (λ (l : Past). Contains l p) g.whole c))

pub still_has : (P : Point → Type 0) (past all : Past) → Grows P past all → (p : Point) → Contains past p → Contains all p
still_has P past all g p c = subst (λ (l : Past). Contains l p) (sym g.whole) (Contains-append_right g.newer past p c)

-- ---- the points of batches

-- a point of a batch
abbrev pub Quiet : Point → Type 0
Quiet p = host_of p.action ≡ None

-- a point of a batch on queue q
abbrev pub On : ℕ → Point → Type 0
On q p = Quiet p × (p.queue ≡ q)

pub actions_grow : {A : Type 0} (of : A → Action) → ((x : A) → host_of (of x) ≡ None) → (t : SubmittedBatch) (k : ℕ) (xs : List A) (past : Past) → Grows (On t.queue) past (actions of t k xs past)
actions_grow of quiet t k [] past = stays (On t.queue) past
actions_grow of quiet t k (x ∷ xs) past =
    let p : Point = record { entry = t.entry; batch = t.batch; place = k; queue = t.queue; action = of x } in
    grows_on (On t.queue) past (p ∷ past) _ (one_more (On t.queue) past p (quiet x, refl)) (actions_grow of quiet t (k + 1) xs (p ∷ past))

pub started_grows : (t : SubmittedBatch) (past : Past) → Grows (On t.queue) past (started t past)
started_grows t past =
    grows_on (On t.queue) past _ _ (actions_grow Wait (λ x. refl) t 0 t.content.waits past)
    (grows_on (On t.queue) _ _ _ (actions_grow Run (λ x. refl) t 0 t.content.commands _) (actions_grow Signal (λ x. refl) t 0 t.content.signals _))

quiet_entries : (newer past : Past) → Each Quiet newer → entries (newer ++ past) ≡ entries past
quiet_entries [] past each = refl
quiet_entries (p ∷ newer) past each = rw (each.0) (quiet_entries newer past each.1)

-- points of batches add no entry
pub same_entries : (past all : Past) → Grows Quiet past all → entries all ≡ entries past
same_entries past all g = ap entries g.whole ∙ quiet_entries g.newer past g.each

-- ---- the points of entries

pub next_grows : (o : Option SubmittedBatch) (f : Front) → Grows Quiet f.past (start_batch o f).past
next_grows None f = stays Quiet f.past
next_grows (Some t) f = grows_too (On t.queue) Quiet (λ p h. h.0) f.past (started t f.past) (started_grows t f.past)

pub settled_grows : (n : ℕ) (f : Front) → Grows Quiet f.past (settled n f).past
settled_grows zero f = stays Quiet f.past
settled_grows (suc n) f =
    let g : Front = start_batch (next_batch f.past [] f.waiting) f in
    grows_on Quiet f.past g.past _ (next_grows (next_batch f.past [] f.waiting) f) (settled_grows n g)

-- after an entry's point come points of batches alone
pub entry_grows : (e : ℕ) (x : Entry) (f : Front) → Grows Quiet (host e x ∷ f.past) (after_entry e x f).past
entry_grows e x f =
    let waiting = f.waiting ++ batches_of f.past e x in
    settled_grows (length waiting) (record { past = host e x ∷ f.past; waiting = waiting })

pub entries_after : (e : ℕ) (x : Entry) (f : Front) → entries (after_entry e x f).past ≡ x ∷ entries f.past
entries_after e x f = same_entries (host e x ∷ f.past) (after_entry e x f).past (entry_grows e x f)

pub order_grows : (e : ℕ) (f : Front) (xs : List Entry) → (newer : Past) × ((order_from e f xs).past ≡ newer ++ f.past)
order_grows e f [] = ([], refl)
order_grows e f (x ∷ xs) =
    let g = entry_grows e x f in
    let rest = order_grows (e + 1) (after_entry e x f) xs in
    (rest.0 ++ (g.newer ++ host e x ∷ []), rest.1 ∙ ap (λ (l : Past). rest.0 ++ l) (g.whole ∙ sym (append_assoc g.newer (host e x ∷ []) f.past)) ∙ sym (append_assoc rest.0 (g.newer ++ host e x ∷ []) f.past))

-- entries that come one after the other
pub order_append : (e : ℕ) (f : Front) (xs ys : List Entry) → order_from e f (xs ++ ys) ≡ order_from (e + length xs) (order_from e f xs) ys
order_append e f [] ys = ap (λ (k : ℕ). order_from k f ys) (let same : e ≡ e + 0 = omega arith in same)
order_append e f (x ∷ xs) ys =
    order_append (e + 1) (after_entry e x f) xs ys
    ∙ ap (λ (k : ℕ). order_from k (order_from (e + 1) (after_entry e x f) xs) ys) (let same : (e + 1) + length xs ≡ e + length (x ∷ xs) = omega arith in same)
