-- What a scheduler picks for a trace, one entry after another.
use Rattle.std.proofs.Common.{◌≡◌, ℕ, suc, ◌+◌, ◌<◌, ◌≤◌, List, [], ◌∷◌, ◌++◌, length, take, drop, Bool, true, false, ◌==◌, refl, ap, sym, ◌∙◌, arith, get_or, append-nil, append_assoc, length-append, Option, Some, None, zero}
use Rattle.std.specs.Prelude.{⊤, if◌then◌else◌}
use Rattle.std.proofs.lemmas.Bool.{eqb-true, eq-eqb}
use Rattle.std.proofs.lemmas.Grind.{take_at_read, common_steps}
use Rattle.vk_model.specs.declared.entry.Entry.{Entry}
use Rattle.vk_model.specs.declared.entry.Entry.TheVariants as entry
use Rattle.vk_model.specs.Basics.{holds}
use Rattle.vk_model.specs.Trace.Order.{Front, after_entry, order}
use Rattle.vk_model.proofs.Trace.Growing.{order_append}
use Rattle.vk_model.specs.World.Effect.{world}
use Rattle.vk_model.specs.World.Meaning.{Reads, reads, read_in, meaning}
use Rattle.vk_cache_laws.proofs.NextReads.{reads_next}
use Rattle.vk_model.specs.Run.Runs.{Step, Stage, start}
use Rattle.vk_model.specs.Run.Runs as runs
use Rattle.vk_model.specs.Run.Picks.{Picked, before_entry, entry_picks, trace_picks}
use Rattle.vk_queues.specs.IsWaiting.{front_of}
use Rattle.vk_laws.specs.DefinedRuns.{FollowsTrace}
use Rattle.vk_laws.specs.PickedRuns.{LeadsTo}
use Rattle.vk_device.proofs.Coming.{applied_count}

-- a stop that isn't before an entry
abbrev pub NotBefore : ℕ → Option ℕ → Type 0
NotBefore i None = ⊤
NotBefore i (Some n) = i ≤ n

-- the parts of these counts, one for each entry
abbrev pub parts_in : List ℕ → ℕ → ℕ
parts_in counts n = get_or counts n 0

-- steps before what was picked
abbrev pub after_steps : List Step → Picked → Picked
after_steps steps p = record p { steps = steps ++ p.steps }

module _ (answer : List ℕ → ℕ → ℕ) (next : List ℕ → ℕ → List ℕ) (t : List Entry) (held0 : List ℕ) where
  -- what was picked for i entries, of which each that begins a pass has so many parts, has led to a stage, whatever parts come later, and this is what they have read
  pub record PicksTo (i : ℕ) (reported : Reads) (counts : List ℕ) (steps : List Step) (stage : Stage) (held : List ℕ) : Type 0 where
    pub left : stage.left ≡ drop i t
    pub at : stage.count ≡ i
    pub same : reported ≡ meaning t i
    pub long : length counts ≡ i
    pub rest : (later : List ℕ) (stop : Option ℕ) → NotBefore i stop
        → trace_picks answer next (parts_in (counts ++ later)) stop (start t) held0 t ≡ after_steps steps (trace_picks answer next (parts_in (counts ++ later)) stop stage held stage.left)

  pub picks_start : PicksTo 0 [] [] [] (start t) held0
  unfolding meaning
  picks_start = record {
    left = refl;
    at = refl;
    same = refl;
    long = refl;
    rest = λ later stop not_before. refl;
  }

-- the entries with one more
pub front_more : (t : List Entry) (i : ℕ) (x : Entry) → x ≡ get_or t i x → i < length t → take (i + 1) t ≡ take i t ++ x ∷ []
front_more t i x is lt = (take_at_read t i x lt).1 ∙ ap (λ (y : Entry). take i t ++ y ∷ []) (sym is)

one_more : (t : List Entry) (i : ℕ) (x : Entry) → x ≡ get_or t i x → i < length t → front_of (take (i + 1) t) ≡ after_entry i x (front_of (take i t))
one_more t i x is lt =
    let long : length (take i t) ≡ i = grind (arith, common_steps) in
    ap front_of (front_more t i x is lt) ∙ order_append 0 (record { past = []; waiting = [] }) (take i t) (x ∷ []) ∙ ap (λ (n : ℕ). after_entry n x (front_of (take i t))) (omega arith)

left_more : (t : List Entry) (i : ℕ) (x : Entry) → x ≡ get_or t i x → i < length t → drop i t ≡ x ∷ drop (i + 1) t
left_more [] i x is lt = absurd (omega arith)
left_more (y ∷ ys) zero x is lt = ap (λ (z : Entry). z ∷ ys) (sym is)
left_more (y ∷ ys) (suc i) x is lt = let more : suc i + 1 ≡ suc (i + 1) = omega arith in rw more (left_more ys i x is (omega arith))

-- the entries that a run has applied are the first ones
gone_is : (t gone left : List Entry) (i : ℕ) → t ≡ gone ++ left → length gone ≡ i → gone ≡ take i t
gone_is t gone left i whole size = let all : take (length gone) (gone ++ left) ≡ gone = grind (arith, common_steps) in sym all ∙ ap (λ (n : ℕ). take n (gone ++ left)) size ∙ ap (λ (l : List Entry). take i l) (sym whole)

stage_front : (t : List Entry) (s : Stage) (i : ℕ) → FollowsTrace t s → s.count ≡ i → s.front ≡ front_of (take i t)
stage_front t s i st at = st.front ∙ ap front_of (gone_is t st.gone s.left i st.whole (sym st.counted ∙ at))

-- a stop at or after the next entry isn't at this one
not_here : (i : ℕ) (stop : Option ℕ) → NotBefore (i + 1) stop → (n : ℕ) → n ≡ i → holds stop (λ k. k == n) ≡ false
not_here i None not_before n is = refl
not_here i (Some k) not_before n is = go (k == n) refl
  where
    go : (b : Bool) → (k == n) ≡ b → b ≡ false
    go true e = let same = eqb-true k n e in absurd (omega (arith, not_before, is, same))
    go false e = refl

weaker : (i : ℕ) (stop : Option ℕ) → NotBefore (i + 1) stop → NotBefore i stop
weaker i None h = tt
weaker i (Some n) h = omega (arith, h)

-- a stage after an entry
applied_left : (s : Stage) (n : ℕ) (x : Entry) (xs : List Entry) → (runs.applied s n x xs).left ≡ xs
applied_left s n (entry.Pass d) xs = refl
applied_left s n (entry.EndPass d kept lost) xs = refl
applied_left s n _ xs = refl

-- what comes after some items
pub get_after : (xs ys : List ℕ) (y k : ℕ) → k ≡ length xs → get_or (xs ++ y ∷ ys) k 0 ≡ y
get_after [] ys y zero is = refl
get_after [] ys y (suc k) is = absurd (omega (arith, is))
get_after (x ∷ xs) ys y zero is = absurd (omega (arith, is))
get_after (x ∷ xs) ys y (suc k) is = get_after xs ys y k (omega (arith, is))

module _ (answer : List ℕ → ℕ → ℕ) (next : List ℕ → ℕ → List ℕ) (t : List Entry) (held0 : List ℕ) (i : ℕ) (reported : Reads) (counts : List ℕ) (steps : List Step) (s : Stage) (held : List ℕ) (so_far : PicksTo answer next t held0 i reported counts steps s held) where
  module _ (x : Entry) (is : x ≡ get_or t i x) (lt : i < length t) where
    pub next_left : s.left ≡ x ∷ drop (i + 1) t
    next_left = so_far.left ∙ left_more t i x is lt

    module _ (n : ℕ) where
      -- the next entry, with so many parts
      abbrev picked : Picked
      picked = entry_picks answer next n s held x (drop (i + 1) t)

      abbrev parts_with : List ℕ → ℕ → ℕ
      parts_with later = parts_in (counts ++ n ∷ later)

      pub count_here : (later : List ℕ) → parts_with later s.count ≡ n
      count_here later = get_after counts later n s.count (so_far.at ∙ sym so_far.long)

      -- the picks of the whole, by those up to the next entry
      picks_more : (later : List ℕ) (stop : Option ℕ) → NotBefore (i + 1) stop
          → trace_picks answer next (parts_with later) stop (start t) held0 t ≡ after_steps (steps ++ picked.steps) (trace_picks answer next (parts_with later) stop picked.stage picked.held (drop (i + 1) t))
      picks_more later stop not_before =
          so_far.rest (n ∷ later) stop (weaker i stop not_before) ∙ ap (λ (ys : List Entry). after_steps steps (trace_picks answer next (parts_with later) stop s held ys)) next_left
          ∙ here (not_here i stop not_before s.count so_far.at)
        where
          goes : ℕ → Picked
          goes m = after_steps (entry_picks answer next m s held x (drop (i + 1) t)).steps (trace_picks answer next (parts_with later) stop (entry_picks answer next m s held x (drop (i + 1) t)).stage (entry_picks answer next m s held x (drop (i + 1) t)).held (drop (i + 1) t))

          here : holds stop (λ k. k == s.count) ≡ false → after_steps steps (trace_picks answer next (parts_with later) stop s held (x ∷ drop (i + 1) t)) ≡ after_steps (steps ++ picked.steps) (trace_picks answer next (parts_with later) stop picked.stage picked.held (drop (i + 1) t))
          here passed =
              ap (λ (b : Bool). after_steps steps (if b then before_entry answer next s held x else goes (parts_with later s.count))) passed ∙ ap (λ (m : ℕ). after_steps steps (goes m)) (count_here later)
              ∙ ap (λ (l : List Step). record (trace_picks answer next (parts_with later) stop picked.stage picked.held (drop (i + 1) t)) { steps = l })
              (sym (append_assoc steps picked.steps (trace_picks answer next (parts_with later) stop picked.stage picked.held (drop (i + 1) t)).steps))

      -- one entry more
      pub picks_on : LeadsTo s x (before_entry answer next s held x) → FollowsTrace t s → (held' : List ℕ) → held' ≡ (entry_picks answer next n s held x (drop (i + 1) t)).held → (new : Reads) → read_in (world s.front.past) s.count x ≡ new
          → PicksTo answer next t held0 (i + 1) (reported ++ new) (counts ++ n ∷ []) (steps ++ (entry_picks answer next n s held x (drop (i + 1) t)).steps) (entry_picks answer next n s held x (drop (i + 1) t)).stage held'
      unfolding meaning
      picks_on leads st held' same_held new gave =
          let front = stage_front t s i st so_far.at in
          let before = front_of (take i t) in
          let gave' : read_in (world before.past) i x ≡ new = ap (λ (f : Front). read_in (world f.past) i x) (sym front) ∙ ap (λ (k : ℕ). read_in (world s.front.past) k x) (sym so_far.at) ∙ gave in
          let last : (later : List ℕ) → (counts ++ n ∷ []) ++ later ≡ counts ++ n ∷ later = λ later. append_assoc counts (n ∷ []) later in
          let left = applied_left (before_entry answer next s held x).stage n x (drop (i + 1) t) in
          record {
            left = left;
            at = applied_count (before_entry answer next s held x).stage n x (drop (i + 1) t) ∙ ap (λ (k : ℕ). k + 1) (leads.count ∙ so_far.at);
            same = ap (λ (r : Reads). r ++ new) so_far.same ∙ ap (λ (r : Reads). meaning t i ++ r) (sym gave') ∙ sym (reads_next i x before) ∙ ap (λ (f : Front). reads f.past) (sym (one_more t i x is lt));
            long = let all = length-append counts (n ∷ []) in let was = so_far.long in omega (arith, all, was);
            rest = λ later stop not_before. rw (last later, same_held) (picks_more later stop not_before ∙ ap (λ (ys : List Entry). after_steps (steps ++ picked.steps) (trace_picks answer next (parts_with later) stop picked.stage picked.held ys)) (sym left));
          }

    -- or it finds no room
    pub picks_stop : (later : List ℕ) → trace_picks answer next (parts_in (counts ++ later)) (Some i) (start t) held0 t ≡ after_steps steps (before_entry answer next s held x)
    picks_stop later =
        so_far.rest later (Some i) (omega arith) ∙ ap (λ (ys : List Entry). after_steps steps (trace_picks answer next (parts_in (counts ++ later)) (Some i) s held ys)) next_left ∙ rw (eq-eqb i s.count (sym so_far.at)) refl

  -- and at the end of the trace
  module _ (done : length t ≤ i) where
    pub picks_end : (later : List ℕ) → trace_picks answer next (parts_in (counts ++ later)) None (start t) held0 t ≡ record { steps = steps; stage = s; held = held }
    picks_end later =
        let none : drop i t ≡ [] = grind (arith, common_steps) in
        so_far.rest later None tt ∙ ap (λ (ys : List Entry). after_steps steps (trace_picks answer next (parts_in (counts ++ later)) None s held ys)) (so_far.left ∙ none)
        ∙ ap (λ (l : List Step). record { steps = l; stage = s; held = held }) (append-nil steps)

    pub whole_meaning : reported ≡ meaning t (length t)
    unfolding meaning
    whole_meaning =
        let whole : take i t ≡ t = grind (arith, common_steps) in
        let all : take (length t) t ≡ t = grind (arith, common_steps) in
        so_far.same ∙ ap (λ (l : List Entry). reads (order l)) (whole ∙ sym all)
