-- Counts for a line of what is known of its nodes: how many are before, and of how many the writes are available, and visible where.
use Rattle.std.specs.Prelude.{◌≡◌, ℕ, Bool, false, nat_le, ◌≤◌, ◌&&◌, ◌||◌, max, List, length, map, slice_index_or, if◌then◌else◌}
use Rattle.std.specs.Option.{option_map_or}
use Rattle.vk_model.specs.Sync.Node.{Node, Act}
use Rattle.vk_model.specs.Sync.Seen.{Read, Write}
use Rattle.vk_model.specs.Sync.Edge.{is_submit}
use Rattle.vk_order.specs.declared.counts.Counts.{Counts}
use Rattle.vk_order.specs.declared.counts.Shows.{Shows}
use Rattle.vk_order.specs.declared.lines.Line.{Line}
use Rattle.vk_order.specs.Lines.{place}
use Rattle.vk_order.specs.Inner.Kept.{clock_at, IsOwn}
use Rattle.vk_order.specs.Inner.Leads.{is_of_host, is_of_barriers}
use Rattle.vk_order.specs.Inner.Places.{index_in}
use Rattle.vk_order.specs.Inner.Rows.{Knowledge, Available, Visible, OnHost, makes_all_visible, makes_all_visible_on_host, makes_line_available}

-- Of no node.
abbrev pub zero_counts : Counts
zero_counts = record { clock = 0; available = 0; reads = 0; writes = 0; host_reads = 0; host_writes = 0 }

-- The greater of each count.
abbrev pub joined_counts : Counts → Counts → Counts
joined_counts c d = record { clock = max c.clock d.clock; available = max c.available d.available; reads = max c.reads d.reads; writes = max c.writes d.writes; host_reads = max c.host_reads d.host_reads; host_writes = max c.host_writes d.host_writes }

-- Whether each count of the one is at least as great as that of the other one.
abbrev pub covers : Counts → Counts → Bool
covers c d = nat_le d.clock c.clock && nat_le d.available c.available && nat_le d.reads c.reads && nat_le d.writes c.writes && nat_le d.host_reads c.host_reads && nat_le d.host_writes c.host_writes

-- How many nodes are known in a way.
abbrev pub count_in : Knowledge → Counts → ℕ
count_in Available c = c.available
count_in (Visible Read) c = c.reads
count_in (Visible Write) c = c.writes
count_in (OnHost Read) c = c.host_reads
count_in (OnHost Write) c = c.host_writes

-- The counts that a list has for a line.
abbrev pub counts_on : List Line → List Counts → Line → Counts
counts_on ls all l = option_map_or (λ i. slice_index_or all i zero_counts) (index_in ls l) zero_counts

-- Of how many nodes of a line the writes are known: of elements of barriers those before, of others those available.
abbrev pub known_on : Line → Counts → ℕ
known_on l c = if is_of_barriers l then c.clock else c.available

-- The same by the counts at an index.
unfoldable pub known_in : List Counts → ℕ → Line → ℕ
known_in all i l = known_on l (slice_index_or all i zero_counts)

-- What an act makes visible.
abbrev pub shows_of : Act → Shows
shows_of a = record { reads = makes_all_visible Read a; writes = makes_all_visible Write a; host_reads = makes_all_visible_on_host Read a; host_writes = makes_all_visible_on_host Write a; is_submit = is_submit a }

-- That nothing is made visible.
abbrev pub no_shows : Shows
no_shows = record { reads = false; writes = false; host_reads = false; host_writes = false; is_submit = false }

-- The counts for a line after an act, where what is available after it is counted: also of what it makes visible.
abbrev pub made_visible_by : Shows → Line → Counts → Counts
made_visible_by s l c = record {
  clock = c.clock;
  available = c.available;
  reads = if s.reads || is_of_host l && s.is_submit then known_on l c else 0;
  writes = if s.writes || is_of_host l && s.is_submit then known_on l c else 0;
  host_reads = if s.host_reads then max c.host_reads (known_on l c) else c.host_reads;
  host_writes = if s.host_writes then max c.host_writes (known_on l c) else c.host_writes;
}

-- The same, for what looks no further.
unfoldable pub made_visible_on : Shows → Line → Counts → Counts
made_visible_on s l c = made_visible_by s l c

-- Other counts with this many before, and with this many available.
abbrev pub with_clock : Counts → ℕ → Counts
with_clock c n = record { clock = n; available = c.available; reads = c.reads; writes = c.writes; host_reads = c.host_reads; host_writes = c.host_writes }

abbrev pub with_available : Counts → ℕ → Counts
with_available c n = record { clock = c.clock; available = n; reads = c.reads; writes = c.writes; host_reads = c.host_reads; host_writes = c.host_writes }

-- Counts of what nothing of is visible to commands.
abbrev pub hidden : Counts → Counts
hidden c = record { clock = c.clock; available = c.available; reads = 0; writes = 0; host_reads = c.host_reads; host_writes = c.host_writes }

-- A list has the greater of two others' counts at each place.
pub record AreJoinedCounts (first second both : List Counts) : Type 0 where
  pub counts : (i : ℕ) → slice_index_or both i zero_counts ≡ joined_counts (slice_index_or first i zero_counts) (slice_index_or second i zero_counts)
  pub long : length both ≡ max (length first) (length second)

-- What an act on a queue, which comes next, makes available is counted too.
pub record AreAvailable (ns : List Node) (ls : List Line) (queue : ℕ) (act : Act) (before own : List Counts) : Type 0 where
  pub counts : (l : Line) → counts_on ls own l ≡ (if makes_line_available queue act l then with_available (counts_on ls before l) (place ns l (length ns)) else counts_on ls before l)
  pub short : length own ≤ length ls

-- What is made visible is counted too.
pub record AreVisible (ls : List Line) (shows : Shows) (before own : List Counts) : Type 0 where
  pub counts : (l : Line) → counts_on ls own l ≡ made_visible_by shows l (counts_on ls before l)
  pub long : length own ≡ length before

-- The node n itself is counted too.
pub record AreCounted (ns : List Node) (ls : List Line) (n : Node) (before own : List Counts) : Type 0 where
  pub clock : IsOwn ns ls n (map (λ c. c.clock) before) (map (λ c. c.clock) own)
  pub rows : (g : Knowledge) (l : Line) → clock_at ls (map (count_in g) own) l ≡ clock_at ls (map (count_in g) before) l
