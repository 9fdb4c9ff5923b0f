-- The text of rows (profile).
use Rattle.std.specs.Prelude.{ℕ, ◌+◌, ◌^◌, ◌==◌, nat_lt, false, if◌then◌else◌, List, [], ◌∷◌, ◌++◌, codes, decimal}
use Rattle.std.specs.List.{flat_map}
use Rattle.std.specs.Fmt.{digits}
use Rattle.vk_model.specs.Trace.Order.{SubmittedBatch}
use Rattle.vk_model.specs.declared.rule.At.TheVariants.{Command}
use Rattle.vk_model.specs.declared.command.Cmd.{Cmd}
use Rattle.vk_model.specs.declared.command.Length.{Length}
use Rattle.vk_model.specs.declared.command.Length.TheVariants as bytes
use Rattle.vk_model.specs.declared.command.SubresourceRange.{SubresourceRange}
use Rattle.vk_model.specs.declared.entry.Entry.{Entry}
use Rattle.vk_model.specs.declared.entry.SemaphoreSubmit.{SemaphoreSubmit}
use Rattle.vk_model.specs.declared.layout.Format.{Format}
use Rattle.vk_model.specs.declared.layout.Format.TheVariants.{R8Uint, R8G8Uint, R8G8B8A8Uint, R16Uint, R32Uint, R32G32Uint, R32G32B32A32Uint}
use Rattle.vk_model.specs.declared.resource.Kind.{Kind}
use Rattle.vk_model.specs.declared.resource.Kind.TheVariants as kind
use Rattle.vk_model.specs.declared.resource.Place.{Place}
use Rattle.vk_model.specs.declared.resource.Place.TheVariants as place
use Rattle.vk_model.specs.declared.resource.PoolKind.{PoolKind}
use Rattle.vk_model.specs.declared.resource.PoolKind.TheVariants as pool
use Rattle.vk_model.specs.declared.resource.Sharing.{Sharing}
use Rattle.vk_model.specs.declared.resource.Sharing.TheVariants as sharing
use Rattle.vk_words.specs.MaskText.{mask_text}
use Rattle.vk_words.specs.Points.{at_text}
use Rattle.vk_row_text.specs.declared.names.BatchName.{BatchName}
use Rattle.vk_row_text.specs.declared.names.BatchName.TheVariants.{BatchWait, BatchSignal}
use Rattle.vk_row_text.specs.declared.words.Word.{Word}
use Rattle.vk_row_text.specs.declared.words.Word.TheVariants.{Number, Hex, Bytes, Layout, Family, Usage, Stages, Accesses, Place as InPlace, Algorithm, Sharing as Shared, Tiling, Format as OfFormat, Range}
use Rattle.vk_row_text.specs.Names.{row_name}
use Rattle.vk_row_text.specs.Words.{CallWords, RowWords}
use Rattle.vk_row_text.specs.Rows.{entry_row, command_row, submit_row, batch_row}

-- A number in decimal, so that C takes it as one without a sign (C99, 6.4.4.1).
abbrev pub number_text : ℕ → List ℕ
number_text n = decimal n ++ (if nat_lt n (2 ^ 63) then [] else codes "u")

-- A number of bytes, or `VK_WHOLE_SIZE`.
abbrev pub length_text : Length → List ℕ
length_text (bytes.Bytes n) = number_text n
length_text bytes.Whole = codes "WHOLE"

-- The name of a layout, or its number where no transfer has to do with it.
abbrev pub layout_text : ℕ → List ℕ
layout_text n = if n == 0 then codes "UNDEFINED" else (if n == 1 then codes "GENERAL" else (if n == 6 then codes "TRANSFER_SRC_OPTIMAL" else (if n == 7 then codes "TRANSFER_DST_OPTIMAL" else decimal n)))

-- A queue family, or `VK_QUEUE_FAMILY_IGNORED`.
abbrev pub family_text : ℕ → List ℕ
family_text n = if n == 4294967295 then codes "IGNORED" else decimal n

-- The names of the bits of a usage, of stages and of accesses.
abbrev pub usage_names : List (List ℕ × ℕ)
usage_names = (codes "TRANSFER_SRC", 1) ∷ (codes "TRANSFER_DST", 2) ∷ []

abbrev pub stage_names : List (List ℕ × ℕ)
stage_names = (codes "TRANSFER", 4096) ∷ (codes "HOST", 16384) ∷ (codes "ALL_COMMANDS", 65536) ∷ []

abbrev pub access_names : List (List ℕ × ℕ)
access_names = (codes "TRANSFER_READ", 2048) ∷ (codes "TRANSFER_WRITE", 4096) ∷ (codes "HOST_READ", 8192) ∷ (codes "HOST_WRITE", 16384) ∷ (codes "MEMORY_READ", 32768) ∷ (codes "MEMORY_WRITE", 65536) ∷ []

-- Where a resource lies (profile).
abbrev pub place_text : Place → List ℕ
place_text (place.Dedicated memory_type) = codes "DEDICATED(" ++ number_text memory_type ++ codes ")"
place_text (place.Memory memory offset) = codes "IN_MEMORY(" ++ number_text memory ++ codes ", " ++ number_text offset ++ codes ")"
place_text (place.Pool pool) = codes "IN_POOL(" ++ number_text pool ++ codes ")"
place_text (place.PoolUpper pool) = codes "IN_POOL_UPPER(" ++ number_text pool ++ codes ")"

-- How the blocks of a pool are placed, as VMA names it.
abbrev pub algorithm_text : PoolKind → List ℕ
algorithm_text pool.Tlsf = codes "TLSF"
algorithm_text pool.Linear = codes "LINEAR"

-- The names of `VkSharingMode`.
abbrev pub sharing_text : Sharing → List ℕ
sharing_text sharing.Exclusive = codes "EXCLUSIVE"
sharing_text sharing.Concurrent = codes "CONCURRENT"

-- The names of `VkImageTiling`.
abbrev pub tiling_text : Kind → List ℕ
tiling_text kind.Linear = codes "LINEAR"
tiling_text kind.Optimal = codes "OPTIMAL"

-- The names of `VkFormat`.
abbrev pub format_text : Format → List ℕ
format_text R8Uint = codes "R8_UINT"
format_text R8G8Uint = codes "R8G8_UINT"
format_text R8G8B8A8Uint = codes "R8G8B8A8_UINT"
format_text R16Uint = codes "R16_UINT"
format_text R32Uint = codes "R32_UINT"
format_text R32G32Uint = codes "R32G32_UINT"
format_text R32G32B32A32Uint = codes "R32G32B32A32_UINT"

-- Levels and layers.
abbrev pub range_text : SubresourceRange → List ℕ
range_text r = codes "RANGE(" ++ number_text r.first_level ++ codes ", " ++ number_text r.levels ++ codes ", " ++ number_text r.first_layer ++ codes ", " ++ number_text r.layers ++ codes ")"

-- A word.
abbrev pub word_text : Word → List ℕ
word_text (Number n) = number_text n
word_text (Hex n) = codes "0x" ++ digits 16 false n
word_text (Bytes n) = length_text n
word_text (Layout n) = layout_text n
word_text (Family n) = family_text n
word_text (Usage m) = mask_text usage_names m.0
word_text (Stages m) = mask_text stage_names m.0
word_text (Accesses m) = mask_text access_names m.0
word_text (InPlace p) = place_text p
word_text (Algorithm a) = algorithm_text a
word_text (Shared s) = sharing_text s
word_text (Tiling t) = tiling_text t
word_text (OfFormat f) = format_text f
word_text (Range r) = range_text r

-- Words with commas between.
abbrev pub words_text : List Word → List ℕ
words_text [] = []
words_text (w ∷ ws) = word_text w ++ flat_map (λ v. codes ", " ++ word_text v) ws

-- A name with its words.
abbrev pub call_text : CallWords → List ℕ
call_text c = row_name c.0 ++ codes "(" ++ words_text c.1 ++ codes ")"

-- An item, on a line of its own.
abbrev pub item_text : CallWords → List ℕ
item_text c = codes "\n            " ++ call_text c

-- A row with its items.
abbrev pub row_text : RowWords → List ℕ
row_text r = call_text r.0 ++ flat_map item_text r.1

-- The lines of an entry, behind its number in the trace (profile).
abbrev pub entry_lines : ℕ → Entry → List ℕ
entry_lines e x = codes "    /* " ++ decimal e ++ codes " */ " ++ row_text (entry_row x) ++ codes "\n"

-- The line of a wait or of a signal of a batch (profile).
abbrev pub submit_line : BatchName → SemaphoreSubmit → List ℕ
submit_line n s = codes "        " ++ call_text (submit_row n s) ++ codes "\n"

-- The lines of a command, behind its point (profile).
abbrev pub command_line : ℕ → ℕ → ℕ → Cmd → List ℕ
command_line e b k c = codes "        /* " ++ at_text (Command e b k) ++ codes " */ " ++ row_text (command_row c) ++ codes "\n"

-- The lines of commands, which are numbered from one on.
abbrev pub command_lines : ℕ → ℕ → ℕ → List Cmd → List ℕ
command_lines e b k [] = []
command_lines e b k (c ∷ cs) = command_line e b k c ++ command_lines e b (k + 1) cs

-- The line with which a batch begins, behind its point (profile).
abbrev pub batch_line : ℕ → ℕ → ℕ → List ℕ
batch_line e b queue = codes "    /* " ++ decimal e ++ codes "." ++ decimal b ++ codes " */ " ++ call_text (batch_row e b queue) ++ codes "\n"

-- The lines of a batch: its waits, its commands, its signals (Vulkan, "Queue Submission").
abbrev pub batch_lines : SubmittedBatch → List ℕ
batch_lines s = batch_line s.entry s.batch s.queue ++ flat_map (submit_line BatchWait) s.content.waits ++ command_lines s.entry s.batch 0 s.content.commands ++ flat_map (submit_line BatchSignal) s.content.signals ++ codes "    END_BATCH\n"
