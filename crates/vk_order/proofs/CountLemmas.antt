-- Lists of counts, and each count of them by itself.
use Rattle.std.proofs.Common.{◌≡◌, ⊎_elim, ℕ, ◌<◌, ◌≤◌, true, List, length, Option, Some, None, refl, ap, sym, ◌∙◌, arith}
use Rattle.std.specs.Prelude.{max, map, nat_le, slice_index_or}
use Rattle.std.specs.Option.{option_map_or}
use Rattle.std.proofs.lemmas.List.{length-map, get_or_past}
use Rattle.std.proofs.lemmas.Bool.{cases_lt}
use Rattle.std.proofs.Math.ListN.{get_or-map}
use Rattle.vk_model.specs.Sync.Seen.{Read, Write}
use Rattle.vk_order.specs.declared.counts.Counts.{Counts}
use Rattle.vk_order.specs.declared.lines.Line.{Line}
use Rattle.vk_order.specs.Inner.Counts.{zero_counts, joined_counts, hidden, count_in, counts_on, AreJoinedCounts}
use Rattle.vk_order.specs.Inner.Kept.{clock_at}
use Rattle.vk_order.specs.Inner.Places.{index_in}
use Rattle.vk_order.specs.Inner.Rows.{Knowledge, Available, Visible, OnHost, AreJoined}

-- ---- one count of each

-- those of no node have none
pub zero_in : (g : Knowledge) → count_in g zero_counts ≡ 0
zero_in Available = refl
zero_in (Visible Read) = refl
zero_in (Visible Write) = refl
zero_in (OnHost Read) = refl
zero_in (OnHost Write) = refl

max_in : (g : Knowledge) (c d : Counts) → count_in g (joined_counts c d) ≡ max (count_in g c) (count_in g d)
max_in Available c d = refl
max_in (Visible Read) c d = refl
max_in (Visible Write) c d = refl
max_in (OnHost Read) c d = refl
max_in (OnHost Write) c d = refl

module _ (f : Counts → ℕ) (zero : f zero_counts ≡ 0) where
  -- at an index
  pub each_at : (all : List Counts) (i : ℕ) → slice_index_or (map f all) i 0 ≡ f (slice_index_or all i zero_counts)
  each_at all i = ap (λ (d : ℕ). slice_index_or (map f all) i d) (sym zero) ∙ get_or-map f all i zero_counts

  -- at a line
  pub at_line : (ls : List Line) (all : List Counts) (l : Line) → clock_at ls (map f all) l ≡ f (counts_on ls all l)
  at_line ls all l = go (index_in ls l)
    where
      go : (o : Option ℕ) → option_map_or (λ i. slice_index_or (map f all) i 0) o 0 ≡ f (option_map_or (λ i. slice_index_or all i zero_counts) o zero_counts)
      go None = sym zero
      go (Some i) = each_at all i

  joined_each : ((c d : Counts) → f (joined_counts c d) ≡ max (f c) (f d)) → (first second both : List Counts) → AreJoinedCounts first second both → AreJoined (map f first) (map f second) (map f both)
  joined_each greater first second both are = record {
    counts = λ i.
        each_at both i ∙ ap f (are.counts i) ∙ greater (slice_index_or first i zero_counts) (slice_index_or second i zero_counts)
        ∙ ap (λ (n : ℕ). max n (f (slice_index_or second i zero_counts))) (sym (each_at first i)) ∙ ap (λ (n : ℕ). max (slice_index_or (map f first) i 0) n) (sym (each_at second i));
    long = length-map both f ∙ are.long ∙ ap (λ (n : ℕ). max n (length second)) (sym (length-map first f)) ∙ ap (λ (n : ℕ). max (length (map f first)) n) (sym (length-map second f));
  }

-- joined lists are joined in each count
pub joined_clocks : (first second both : List Counts) → AreJoinedCounts first second both → AreJoined (map (λ c. c.clock) first) (map (λ c. c.clock) second) (map (λ c. c.clock) both)
joined_clocks first second both are = joined_each (λ c. c.clock) refl (λ c d. refl) first second both are

pub joined_rows : (g : Knowledge) (first second both : List Counts) → AreJoinedCounts first second both → AreJoined (map (count_in g) first) (map (count_in g) second) (map (count_in g) both)
joined_rows g first second both are = joined_each (count_in g) (zero_in g) (max_in g) first second both are

-- ---- how lists are joined

none_max : (n : ℕ) → max 0 n ≡ n
none_max n = omega arith

none_joined : (c : Counts) → joined_counts zero_counts c ≡ c
none_joined c = rw (none_max c.clock, none_max c.available, none_max c.reads, none_max c.writes, none_max c.host_reads, none_max c.host_writes) refl

max_none : (n : ℕ) → max n 0 ≡ n
max_none n = omega arith

joined_none : (c : Counts) → joined_counts c zero_counts ≡ c
joined_none c = rw (max_none c.clock, max_none c.available, max_none c.reads, max_none c.writes, max_none c.host_reads, max_none c.host_writes) refl

-- counts that are the greater ones already
record AreLess (c d : Counts) : Type 0 where
  clock : nat_le d.clock c.clock ≡ true
  available : nat_le d.available c.available ≡ true
  reads : nat_le d.reads c.reads ≡ true
  writes : nat_le d.writes c.writes ≡ true
  host_reads : nat_le d.host_reads c.host_reads ≡ true
  host_writes : nat_le d.host_writes c.host_writes ≡ true

-- past the end of the other list there is nothing to join
pub joined_past : (c : Counts) (other : List Counts) (i : ℕ) → length other ≤ i → c ≡ joined_counts c (slice_index_or other i zero_counts)
joined_past c other i le = sym (ap (joined_counts c) (get_or_past other i zero_counts le) ∙ joined_none c)

-- past the end of a list there is nothing to hide
pub hidden_past : (all : List Counts) (i : ℕ) → length all ≤ i → slice_index_or all i zero_counts ≡ hidden (slice_index_or all i zero_counts)
hidden_past all i le = let e = get_or_past all i zero_counts le in e ∙ sym (ap hidden e)

-- up to the end of the one list they are joined, and then comes the rest of the other one
pub joined_rest : (first second shared both : List Counts) → length both ≡ max (length first) (length second)
    → ((i : ℕ) → i < length first → slice_index_or shared i zero_counts ≡ joined_counts (slice_index_or first i zero_counts) (slice_index_or second i zero_counts))
    → ((i : ℕ) → i < length first → slice_index_or both i zero_counts ≡ slice_index_or shared i zero_counts)
    → ((i : ℕ) → length first ≤ i → i < length second → slice_index_or both i zero_counts ≡ slice_index_or second i zero_counts) → AreJoinedCounts first second both
joined_rest first second shared both long joined kept rest = record {
  counts = λ i. ⊎_elim (λ lt. kept i lt ∙ joined i lt) (λ ge. past i ge) (cases_lt i (length first));
  long = long;
}
  where
    taken : (i : ℕ) → length first ≤ i → slice_index_or both i zero_counts ≡ slice_index_or second i zero_counts
    taken i ge = ⊎_elim
        (λ lt. rest i ge lt)
        (λ le. get_or_past both i zero_counts (omega arith) ∙ sym (get_or_past second i zero_counts le))
        (cases_lt i (length second))

    past : (i : ℕ) → length first ≤ i → slice_index_or both i zero_counts ≡ joined_counts (slice_index_or first i zero_counts) (slice_index_or second i zero_counts)
    past i ge =
        taken i ge ∙ sym (ap (λ (x : Counts). joined_counts x (slice_index_or second i zero_counts)) (get_or_past first i zero_counts ge) ∙ none_joined (slice_index_or second i zero_counts))
