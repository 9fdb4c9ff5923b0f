-- Joins of rows of whose writes are known.
use Rattle.std.proofs.Common.{◌≡◌, ⊎_elim, ℕ, ◌<◌, ◌≤◌, List, [], ◌∷◌, length, Bool, true, false, ◌||◌, Some, refl, ap, sym, ◌∙◌, subst, arith}
use Rattle.std.specs.Prelude.{nat_lt, Contains, ◌↔◌}
use Rattle.std.proofs.lemmas.Bool.{ltb-true, ltb-false, or_left, or_right, or_cases}
use Rattle.vk_model.specs.Sync.Node.{Node}
use Rattle.vk_model.specs.Sync.Before.{IsNumbered}
use Rattle.vk_model.proofs.Lists.Members.{contains-cons, contains-head, contains-tail}
use Rattle.vk_model.proofs.Lists.Truths.{no}
use Rattle.vk_order.specs.declared.lines.Line.{Line}
use Rattle.vk_order.specs.Lines.{line_of, place}
use Rattle.vk_order.specs.Inner.Clocks.{Clock, joined}
use Rattle.vk_order.specs.Inner.Rows.{Knowledge, Knows, KnowsOne, IsRow, IsRowJoin, IsKeptRow}
use Rattle.vk_order.proofs.ClockLemmas.{place-grows, place-more}
use Rattle.vk_order.proofs.KeptLemmas.{none_of}
use Rattle.vk_order.proofs.KnownRows.{unknown, known_old, known_new, at_old, at_new}

-- ---- joins of rows

module _ (g : Knowledge) (ns : List Node) (test : Node → Bool) (n : Node) (join : Clock) (numbers : IsNumbered (n ∷ ns)) (j : IsRowJoin g ns test join) where
  grow_bound : (l : Line) (i : ℕ) → i ≤ place ns l (length ns) → i ≤ place (n ∷ ns) l (length (n ∷ ns))
  grow_bound l i le = let more = place-more n ns (numbers.0) l (length ns) in let on = place-grows (n ∷ ns) l (length ns) (length (n ∷ ns)) (omega arith) in omega arith

  from_join : (l : Line) (c : Node) → Contains ns c → line_of c ≡ Some l → place ns l c.number < join l → KnowsOne g (n ∷ ns) test c
  from_join l c hc on lt = let r = (j.counts l c hc on).1 lt in (r.0, contains-tail n ns r.0 r.1, r.2, known_new ns n numbers g c r.0 r.1 r.3)

  -- where the new node fails
  pub rows_stay : test n ≡ false → IsRowJoin g (n ∷ ns) test join
  rows_stay fails = record {
    counts = λ l c cc' on. ⊎_elim
        (λ e. subst (λ (x : Node). KnowsOne g (n ∷ ns) test x ↔ (place (n ∷ ns) l x.number < join l)) e
        ((λ (k, ck, t, s). absurd (unknown ns n numbers g k ck s)), (λ lt. absurd (let le = j.bounded l in let at = at_new ns n numbers l in omega arith))))
        (λ there. let at = at_old ns n numbers l c there in (
          (λ (k, ck, t, s). ⊎_elim
              (λ e. no (sym fails ∙ ap test e ∙ t))
              (λ old. rw at ((j.counts l c there on).0 (k, old, t, known_old ns n numbers g c k old s)))
              (contains-cons n ns k ck)),
          (λ lt. from_join l c there on (rw at at lt)),
        ))
        (contains-cons n ns c cc');
    bounded = λ l. grow_bound l (join l) (j.bounded l);
  }

  -- where it passes
  module _ (row : Clock) (is : IsRow g (n ∷ ns) n row) where
    grow_back : (l : Line) (c : Node) → Contains (n ∷ ns) c → Contains ns c → line_of c ≡ Some l → test n ≡ true → (s : Bool) → nat_lt (place ns l c.number) (join l) ≡ s
        → place ns l c.number < joined join row l → KnowsOne g (n ∷ ns) test c
    grow_back l c cc' hc on passes true e lt = from_join l c hc on (ltb-true _ _ e)
    grow_back l c cc' hc on passes false e lt =
        let old = at_old ns n numbers l c hc in
        let ge = ltb-false _ _ e in
        (n, contains-head n ns, passes, (is.counts l c cc' on).1 (omega arith))

    pub rows_grow : test n ≡ true → IsRowJoin g (n ∷ ns) test (joined join row)
    rows_grow passes = record {
      counts = λ l c cc' on. ⊎_elim
          (λ e. subst (λ (x : Node). KnowsOne g (n ∷ ns) test x ↔ (place (n ∷ ns) l x.number < joined join row l)) e
          ((λ (k, ck, t, s). absurd (unknown ns n numbers g k ck s)), (λ lt. absurd (let le = j.bounded l in let at = at_new ns n numbers l in let b = is.bounded l in omega arith))))
          (λ there. let at = at_old ns n numbers l c there in (
            (λ (k, ck, t, s). ⊎_elim
                (λ e. let lt = (is.counts l c cc' on).0 (subst (λ (x : Node). Knows g (n ∷ ns) c x) (sym e) s) in omega arith)
                (λ old. let lt = (j.counts l c there on).0 (k, old, t, known_old ns n numbers g c k old s) in omega arith)
                (contains-cons n ns k ck)),
            (λ lt. grow_back l c cc' there on passes (nat_lt (place ns l c.number) (join l)) refl (rw at at lt)),
          ))
          (contains-cons n ns c cc');
      bounded = λ l. grow_bound l (joined join row l) (let a = j.bounded l in let b = is.bounded l in let at = at_new ns n numbers l in omega arith);
    }

-- a join over tests that agree is one
pub rows_same : (g : Knowledge) (ns : List Node) (f h : Node → Bool) (row : Clock) → ((k : Node) → Contains ns k → f k ≡ h k) → IsRowJoin g ns f row → IsRowJoin g ns h row
rows_same g ns f h row same j = record {
  counts = λ l c hc on. (
    (λ (k, ck, t, s). (j.counts l c hc on).0 (k, ck, same k ck ∙ t, s)),
    (λ lt. let r = (j.counts l c hc on).1 lt in (r.0, r.1, sym (same r.0 r.1) ∙ r.2, r.3)),
  );
  bounded = j.bounded;
}

-- so is one of equal counts
pub rows_as : (g : Knowledge) (ns : List Node) (test : Node → Bool) (a b : Clock) → ((l : Line) → a l ≡ b l) → IsRowJoin g ns test a → IsRowJoin g ns test b
rows_as g ns test a b same j = record {
  counts = λ l c hc on. ((λ h. let lt = (j.counts l c hc on).0 h in let e = same l in omega arith), (λ lt. (j.counts l c hc on).1 (let e = same l in omega arith)));
  bounded = λ l. let le = j.bounded l in let e = same l in omega arith;
}

pub rows_meet : (g : Knowledge) (ns : List Node) (f h : Node → Bool) (a b : Clock) → IsRowJoin g ns f a → IsRowJoin g ns h b → IsRowJoin g ns (λ k. f k || h k) (joined a b)
rows_meet g ns f h a b i j = record {
  counts = λ l c hc on. (
    (λ (k, ck, t, s). ⊎_elim
        (λ e. let lt = (i.counts l c hc on).0 (k, ck, e, s) in omega arith)
        (λ e. let lt = (j.counts l c hc on).0 (k, ck, e, s) in omega arith)
        (or_cases (f k) (h k) t)),
    (λ lt. go l c hc on (nat_lt (place ns l c.number) (a l)) refl lt),
  );
  bounded = λ l. let x = i.bounded l in let y = j.bounded l in omega arith;
}
  where
    go : (l : Line) (c : Node) → Contains ns c → line_of c ≡ Some l → (t : Bool) → nat_lt (place ns l c.number) (a l) ≡ t → place ns l c.number < joined a b l → KnowsOne g ns (λ k. f k || h k) c
    go l c hc on true e lt = let r = (i.counts l c hc on).1 (ltb-true _ _ e) in (r.0, r.1, or_left (f r.0) (h r.0) r.2, r.3)
    go l c hc on false e lt = let r = (j.counts l c hc on).1 (let ge = ltb-false _ _ e in omega arith) in (r.0, r.1, or_right (f r.0) (h r.0) r.2, r.3)

-- ---- kept rows

pub rows_none : (g : Knowledge) (ns : List Node) (ls : List Line) → IsKeptRow g ns ls (λ k. false) []
rows_none g ns ls = record {
  join = record {
    counts = λ l c hc on. ((λ (k, ck, t, s). no t), (λ lt. absurd (let e = none_of ls l in omega arith)));
    bounded = λ l. let e = none_of ls l in omega arith;
  };
  short = omega arith;
}
