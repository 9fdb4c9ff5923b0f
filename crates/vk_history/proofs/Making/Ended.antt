-- What was ended, where the ids of points are judged.
use Rattle.std.proofs.Common.{◌≡◌, ◌⊎◌, inl, inr, ◌<◌, ◌≤◌, ℕ, List, [], ◌∷◌, length, Bool, true, false, ◌==◌, ◌||◌, refl, ap, sym, ◌∙◌, arith, Option, Some, None}
use Rattle.std.specs.Prelude.{Contains, nat_lt, if◌then◌else◌, is_some, option_and_then}
use Rattle.std.specs.List.{list_any, cons_option}
use Rattle.std.specs.Option.{option_or}
use Rattle.std.proofs.lemmas.Bool.{lt-ltb, le-ltb, eqb-true, eq-eqb, false_from_ne_true}
use Rattle.std.proofs.Math.Bool.{or-true, and-false}
use Rattle.vk_model.specs.declared.entry.Entry.{Entry}
use Rattle.vk_model.specs.declared.entry.Entry.TheVariants as entry
use Rattle.vk_model.specs.declared.entry.Batch.{Batch}
use Rattle.vk_model.specs.Basics.{holds, among}
use Rattle.vk_model.specs.Trace.Point.{Past, Point, Action, Host, Wait, Run, Signal, host_of, entries}
use Rattle.vk_model.specs.Trace.Order.{host}
use Rattle.vk_model.specs.Trace.Structure.{IsOrdered, Follows}
use Rattle.vk_model.specs.Trace.Objects.{ended, ended_by}
use Rattle.vk_model.specs.Rules.Ids.{until, judged_in}
use Rattle.vk_model.proofs.Lists.Members.{contains-cons, none_in}
use Rattle.vk_model.proofs.Trace.Structure.{entry_below, is_of_batch}
use Rattle.vk_history.specs.Ended.{end_at, first_end}

-- an id was ended where there is a first end
pub ended_is : (past : Past) (i : ℕ) → ended past i ≡ is_some (first_end past i)
ended_is [] i = refl
ended_is (p ∷ past) i = go (host_of p.action) (first_end past i) (ended_is past i) where
  pick : (t : Bool) (o : Option ℕ) → ended past i ≡ is_some o → (t || ended past i) ≡ is_some (option_or o (if t then Some p.entry else None))
  pick true None e = refl
  pick false None e = e
  pick t (Some n) e = rw e (or-true t)

  go : (h : Option Entry) (o : Option ℕ) → ended past i ≡ is_some o → list_any (λ x. among i (ended_by x)) (cons_option h (entries past)) ≡ is_some (option_or o (option_and_then (λ x. end_at i p.entry (ended_by x)) h))
  go None None e = e
  go None (Some n) e = e
  go (Some x) o e = pick (among i (ended_by x)) o e

-- the first end is one of the entries so far
pub end_below : (past : Past) → IsOrdered past → (i n : ℕ) → first_end past i ≡ Some n → n < length (entries past)
end_below [] o i n is = absurd cc
end_below (p ∷ past) o i n is = go p.action o.0 (first_end past i) refl is (end_below past o.1 i n) where
  one : (x : Entry) (t : Bool) → p ≡ host (length (entries past)) x → (u : Option ℕ) → first_end past i ≡ u → option_or u (if t then Some p.entry else None) ≡ Some n → (first_end past i ≡ Some n → n < length (entries past)) → n < length (x ∷ entries past)
  one x t f (Some m) at e rest = let lt = rest (at ∙ e) in omega (arith, lt)
  one x true f None at e rest = let k : p.entry ≡ length (entries past) = ap (λ (q : Point). q.entry) f in let same : p.entry ≡ n = cc in omega (arith, k, same)
  one x false f None at e rest = absurd cc

  quiet : (u : Option ℕ) → first_end past i ≡ u → option_or u None ≡ Some n → (first_end past i ≡ Some n → n < length (entries past)) → n < length (entries past)
  quiet (Some m) at e rest = rest (at ∙ e)
  quiet None at e rest = absurd cc

  go : (d : Action) → Follows past p d → (u : Option ℕ) → first_end past i ≡ u → option_or u (option_and_then (λ x. end_at i p.entry (ended_by x)) (host_of d)) ≡ Some n → (first_end past i ≡ Some n → n < length (entries past)) → n < length (cons_option (host_of d) (entries past))
  go (Host x) f u at e rest = one x (among i (ended_by x)) f u at e rest
  go (Wait s) f u at e rest = quiet u at e rest
  go (Run c) f u at e rest = quiet u at e rest
  go (Signal s) f u at e rest = quiet u at e rest

abbrev Judges : Past → ℕ → ℕ → Type 0
Judges past e i = ended (until e past) i ≡ holds (first_end past i) (λ n. nat_lt n e)

module _ (e i : ℕ) (q : ℕ) (bs : List Batch) where
  abbrev submit : Point
  submit = host e (entry.Submit q bs)

  all_below : (o : Option ℕ) → ((n : ℕ) → o ≡ Some n → n < e) → is_some o ≡ holds (option_or o None) (λ n. nat_lt n e)
  all_below None lt = refl
  all_below (Some n) lt = sym (lt-ltb n e (lt n refl))

  same_end : (o : Option ℕ) → option_or o None ≡ o
  same_end None = refl
  same_end (Some n) = refl

  later_end : (b : Bool) (o : Option ℕ) (t : Bool) (k : ℕ) → e ≤ k → b ≡ holds o (λ n. nat_lt n e) → b ≡ holds (option_or o (if t then Some k else None)) (λ n. nat_lt n e)
  later_end b (Some n) t k le is = is
  later_end b None true k le is = is ∙ sym (le-ltb k e le)
  later_end b None false k le is = is

  judges : (past : Past) → IsOrdered past → Contains past submit → Judges past e i
  judges [] o c = absurd (none_in submit c)
  judges (p ∷ past) o c = go p.action refl o.0 (contains-cons p past submit c) (judges past o.1) where
    skip : (d : Action) → p.action ≡ d → host_of d ≡ None → Judges past e i → Judges (p ∷ past) e i
    skip d is quiet rest = rw (is, quiet, and-false (p.entry == e)) (rest ∙ ap (λ o. holds o (λ n. nat_lt n e)) (sym (same_end (first_end past i))))

    by_host : (x : Entry) → p.action ≡ Host x → p ≡ host (length (entries past)) x → (p ≡ submit) ⊎ Contains past submit → (Contains past submit → Judges past e i) → Judges (p ∷ past) e i
    by_host x is f (inl same) rest =
        let there : x ≡ entry.Submit q bs = (let a : Host x ≡ Host (entry.Submit q bs) = sym is ∙ ap (λ (r : Point). r.action) same in cc) in
        let number : p.entry ≡ e = ap (λ (r : Point). r.entry) same in
        let count : p.entry ≡ length (entries past) = ap (λ (r : Point). r.entry) f in
        rw (is, there, eq-eqb p.entry e number) (ended_is past i ∙ all_below (first_end past i) (λ n at. let lt = end_below past o.1 i n at in omega (arith, lt, number, count)))
    by_host x is f (inr c) rest =
        let lt : e < length (entries past) = entry_below past o.1 submit c in
        let count : p.entry ≡ length (entries past) = ap (λ (r : Point). r.entry) f in
        let other : (p.entry == e) ≡ false = false_from_ne_true (p.entry == e) (λ h. let same : p.entry ≡ e = eqb-true p.entry e h in omega (arith, same, lt, count)) in
        rw (is, other) (later_end (ended (until e past) i) (first_end past i) (among i (ended_by x)) p.entry (omega (arith, lt, count)) (rest c))

    go : (d : Action) → p.action ≡ d → Follows past p d → (p ≡ submit) ⊎ Contains past submit → (Contains past submit → Judges past e i) → Judges (p ∷ past) e i
    go (Host x) is f there rest = by_host x is f there rest
    go (Wait s) is f (inl same) rest = absurd (let bad : Wait s ≡ Host (entry.Submit q bs) = sym is ∙ ap (λ (r : Point). r.action) same in cc)
    go (Run s) is f (inl same) rest = absurd (let bad : Run s ≡ Host (entry.Submit q bs) = sym is ∙ ap (λ (r : Point). r.action) same in cc)
    go (Signal s) is f (inl same) rest = absurd (let bad : Signal s ≡ Host (entry.Submit q bs) = sym is ∙ ap (λ (r : Point). r.action) same in cc)
    go (Wait s) is f (inr c) rest = skip (Wait s) is refl (rest c)
    go (Run s) is f (inr c) rest = skip (Run s) is refl (rest c)
    go (Signal s) is f (inr c) rest = skip (Signal s) is refl (rest c)

-- what is judged of a point of a batch was ended before its submit
pub judged_ended : (past : Past) (p : Point) (i : ℕ) → IsOrdered (p ∷ past) → host_of p.action ≡ None → ended (judged_in past p) i ≡ holds (first_end past i) (λ n. nat_lt n p.entry)
judged_ended past p i o quiet =
    let f = is_of_batch past p p.action quiet o.0 in
    rw quiet (judges p.entry i p.queue f.batches past o.1 f.submitted)
