-- Points that are read back from their rows.
use Rattle.std.proofs.Common.{◌≡◌, ◌⊎◌, ◌∙◌, ◌-◌, ◌++◌, ℕ, List, [], ◌∷◌, map, take, drop, length, get_or, refl, ap, sym, inl, inr}
use Rattle.std.proofs.lemmas.List.{map-append}
use Rattle.std.proofs.Math.Seq.{take-append_seam, drop-append_seam}
use Rattle.vk_model.specs.declared.command.BufferCopy.{BufferCopy}
use Rattle.vk_model.specs.declared.command.BufferImageCopy.{BufferImageCopy}
use Rattle.vk_model.specs.declared.command.ImageCopy.{ImageCopy}
use Rattle.vk_model.specs.declared.command.SubresourceRange.{SubresourceRange}
use Rattle.vk_model.specs.declared.command.Dependency.{Dependency}
use Rattle.vk_model.specs.declared.command.Element.{Element}
use Rattle.vk_model.specs.declared.command.Element.TheVariants as element
use Rattle.vk_model.specs.declared.command.Length.{Length}
use Rattle.vk_model.specs.declared.command.Length.TheVariants.{Whole}
use Rattle.vk_model.specs.declared.command.Cmd.{Cmd}
use Rattle.vk_model.specs.declared.command.Cmd.TheVariants as cmd
use Rattle.vk_model.specs.declared.entry.Batch.{Batch}
use Rattle.vk_model.specs.declared.entry.Entry.{Entry}
use Rattle.vk_model.specs.declared.entry.Entry.TheVariants as entry
use Rattle.vk_model.specs.declared.entry.SemaphoreSubmit.{SemaphoreSubmit}
use Rattle.vk_model.specs.declared.entry.SemaphoreValue.{SemaphoreValue}
use Rattle.vk_model.specs.declared.layout.Format.{Format}
use Rattle.vk_model.specs.declared.layout.Format.TheVariants as format
use Rattle.vk_model.specs.declared.masks.Accesses.{Accesses}
use Rattle.vk_model.specs.declared.masks.Stages.{Stages}
use Rattle.vk_model.specs.declared.masks.Usage.{Usage}
use Rattle.vk_model.specs.declared.resource.Kind.{Kind}
use Rattle.vk_model.specs.declared.resource.Kind.TheVariants as kind
use Rattle.vk_model.specs.declared.resource.Place.{Place}
use Rattle.vk_model.specs.declared.resource.Place.TheVariants as place
use Rattle.vk_model.specs.declared.resource.PoolKind.{PoolKind}
use Rattle.vk_model.specs.declared.resource.PoolKind.TheVariants as pool
use Rattle.vk_model.specs.declared.resource.Sharing.{Sharing}
use Rattle.vk_model.specs.declared.resource.Sharing.TheVariants as sharing
use Rattle.vk_row_text.specs.declared.names.EntryName.{EntryName}
use Rattle.vk_row_text.specs.declared.names.EntryName.TheVariants as name
use Rattle.vk_row_text.specs.declared.names.BatchName.{BatchName}
use Rattle.vk_row_text.specs.declared.names.BatchName.TheVariants as batch
use Rattle.vk_row_text.specs.declared.names.ItemName.{ItemName}
use Rattle.vk_row_text.specs.declared.names.ItemName.TheVariants as item
use Rattle.vk_row_text.specs.declared.names.RowName.TheVariants.{OfEntry, InBatch, OfItem}
use Rattle.vk_row_text.specs.declared.words.Word.{Word}
use Rattle.vk_row_text.specs.declared.words.Word.TheVariants as word
use Rattle.vk_row_text.specs.Words.{CallWords, RowWords}
use Rattle.vk_row_text.specs.Regions.{id_item, value_item, range_item, copy_item, buffer_image_item, image_item, dependency_item, element_item}
use Rattle.vk_row_text.specs.Rows.{entry_row, command_row, submit_row}
use Rattle.vk_row_text.specs.Telling.{written_bytes, updated_bytes, without_batches}

-- ---- words

unfoldable pub number_in : Word → ℕ
number_in (word.Number n) = n
number_in (word.Hex n) = n
number_in (word.Layout n) = n
number_in (word.Family n) = n
number_in _ = 0

unfoldable pub length_in : Word → Length
length_in (word.Bytes n) = n
length_in _ = Whole

usage_in : Word → Usage
usage_in (word.Usage m) = m
usage_in _ = record { 0 = 0 }

unfoldable pub stages_in : Word → Stages
stages_in (word.Stages m) = m
stages_in _ = record { 0 = 0 }

unfoldable pub accesses_in : Word → Accesses
accesses_in (word.Accesses m) = m
accesses_in _ = record { 0 = 0 }

place_in : Word → Place
place_in (word.Place p) = p
place_in _ = place.Dedicated 0

algorithm_in : Word → PoolKind
algorithm_in (word.Algorithm a) = a
algorithm_in _ = pool.Tlsf

sharing_in : Word → Sharing
sharing_in (word.Sharing s) = s
sharing_in _ = sharing.Exclusive

tiling_in : Word → Kind
tiling_in (word.Tiling t) = t
tiling_in _ = kind.Linear

format_in : Word → Format
format_in (word.Format f) = f
format_in _ = format.R8Uint

unfoldable pub range_in : Word → SubresourceRange
range_in (word.Range r) = r
range_in _ = record { first_level = 0; levels = 0; first_layer = 0; layers = 0 }

unfoldable pub at : List Word → ℕ → Word
at ws k = get_or ws k (word.Number 0)

unfoldable pub number : List Word → ℕ → ℕ
number ws k = number_in (get_or ws k (word.Number 0))

-- ---- items

id_told : CallWords → ℕ
id_told c = number c.1 0

value_told : CallWords → SemaphoreValue
value_told c = record { semaphore = number c.1 0; value = number c.1 1 }

unfoldable pub range_told : CallWords → SubresourceRange
range_told c = record { first_level = number c.1 0; levels = number c.1 1; first_layer = number c.1 2; layers = number c.1 3 }

unfoldable pub copy_told : CallWords → BufferCopy
copy_told c = record { source_offset = number c.1 0; destination_offset = number c.1 1; size = number c.1 2 }

unfoldable pub buffer_image_told : CallWords → BufferImageCopy
buffer_image_told c = record {
  buffer_offset = number c.1 0;
  row_length = number c.1 1;
  image_height = number c.1 2;
  level = number c.1 3;
  first_layer = number c.1 4;
  layers = number c.1 5;
  x = number c.1 6;
  y = number c.1 7;
  width = number c.1 8;
  height = number c.1 9;
}

unfoldable pub image_told : CallWords → ImageCopy
image_told c = record {
  source_level = number c.1 0;
  source_first_layer = number c.1 1;
  destination_level = number c.1 2;
  destination_first_layer = number c.1 3;
  layers = number c.1 4;
  source_x = number c.1 5;
  source_y = number c.1 6;
  destination_x = number c.1 7;
  destination_y = number c.1 8;
  width = number c.1 9;
  height = number c.1 10;
}

unfoldable pub dependency_told : CallWords → Dependency
dependency_told c = record { source_stages = stages_in (at c.1 0); source_accesses = accesses_in (at c.1 1); destination_stages = stages_in (at c.1 2); destination_accesses = accesses_in (at c.1 3) }

element_of : ItemName → CallWords → Element
element_of item.BufferBarrier c = element.Buffer (record {
  dependency = dependency_told c;
  families = record { source = number c.1 4; destination = number c.1 5 };
  buffer = number c.1 6;
  offset = number c.1 7;
  size = length_in (at c.1 8);
})
element_of item.ImageBarrier c = element.Image (record {
  dependency = dependency_told c;
  families = record { source = number c.1 4; destination = number c.1 5 };
  image = number c.1 6;
  old_layout = number c.1 7;
  new_layout = number c.1 8;
  range = range_in (at c.1 9);
})
element_of _ c = element.Memory (dependency_told c)

pub element_told : CallWords → Element
element_told (OfItem n, ws) = element_of n (OfItem n, ws)
element_told (OfEntry n, ws) = element.Memory (dependency_told (OfEntry n, ws))
element_told (InBatch n, ws) = element.Memory (dependency_told (InBatch n, ws))

pub element_back : (e : Element) → element_told (element_item e) ≡ e
unfolding element_told element_of dependency_told stages_in accesses_in number number_in length_in range_in at
element_back (element.Memory d) = refl
element_back (element.Buffer e) = refl
element_back (element.Image e) = refl

-- what is read back of each is read back of all
pub all_back : {A B : Type 0} (f : A → B) (g : B → A) → ((x : A) → g (f x) ≡ x) → (xs : List A) → map g (map f xs) ≡ xs
all_back f g back [] = refl
all_back f g back (x ∷ xs) = ap (λ y. y ∷ map g (map f xs)) (back x) ∙ ap (λ l. x ∷ l) (all_back f g back xs)

-- ---- entries

of_name : EntryName → List Word → List CallWords → List ℕ → Entry
of_name name.CreatePool ws items bytes = entry.Pool (number ws 0) (record { kind = algorithm_in (at ws 1); memory_type = number ws 2; block_size = number ws 3; block_limit = number ws 4 })
of_name name.CreateBuffer ws items bytes = entry.Buffer (number ws 0) (record { size = number ws 1; usage = usage_in (at ws 2); sharing = sharing_in (at ws 3); place = place_in (at ws 4) })
of_name name.CreateImage ws items bytes = entry.Image (number ws 0) (record {
  format = format_in (at ws 1);
  width = number ws 2;
  height = number ws 3;
  levels = number ws 4;
  layers = number ws 5;
  tiling = tiling_in (at ws 6);
  usage = usage_in (at ws 7);
  sharing = sharing_in (at ws 8);
  place = place_in (at ws 9);
})
of_name name.AllocateMemory ws items bytes = entry.Memory (number ws 0) (record { memory_type = number ws 1; size = number ws 2 })
of_name name.FreeMemory ws items bytes = entry.Free (number ws 0)
of_name name.Destroy ws items bytes = entry.Destroy (number ws 0)
of_name name.DestroyPool ws items bytes = entry.DropPool (number ws 0)
of_name name.MapMemory ws items bytes = entry.Map (number ws 0)
of_name name.UnmapMemory ws items bytes = entry.Unmap (number ws 0)
of_name name.Write ws items bytes = entry.Write (number ws 0) (number ws 1) bytes
of_name name.Read ws items bytes = entry.Read (number ws 0) (number ws 1) (number ws 2)
of_name name.Flush ws items bytes = entry.Flush (number ws 0) (number ws 1) (length_in (at ws 2))
of_name name.Invalidate ws items bytes = entry.Invalidate (number ws 0) (number ws 1) (length_in (at ws 2))
of_name name.CreateSemaphore ws items bytes = entry.Semaphore (number ws 0) (number ws 1)
of_name name.CreateEvent ws items bytes = entry.Event (number ws 0)
of_name name.SignalSemaphore ws items bytes = entry.Signal (number ws 0) (number ws 1)
of_name name.WaitSemaphores ws items bytes = entry.Wait (map value_told items)
of_name name.Submit ws items bytes = entry.Submit (number ws 0) []
of_name name.BeginDefragmentation ws items bytes = entry.Defrag (number ws 0) (number ws 1) (number ws 2) (number ws 3)
of_name name.BeginPass ws items bytes = entry.Pass (number ws 0)
of_name name.EndPass ws items bytes = entry.EndPass (number ws 0) (take (number ws 1) (map id_told items)) (drop (number ws 1) (map id_told items))
of_name name.EndDefragmentation ws items bytes = entry.EndDefrag (number ws 0)

pub entry_told : RowWords × List ℕ → Entry
entry_told (((OfEntry n, ws), items), bytes) = of_name n ws items bytes
entry_told (((InBatch n, ws), items), bytes) = entry.Event 0
entry_told (((OfItem n, ws), items), bytes) = entry.Event 0

ids_back : (xs ys : List ℕ) → map id_told (map id_item xs ++ map id_item ys) ≡ xs ++ ys
unfolding id_told number number_in
ids_back xs ys = map-append id_told (map id_item xs) (map id_item ys)
    ∙ (ap (λ l. l ++ map id_told (map id_item ys)) (all_back id_item id_told (λ x. refl) xs) ∙ ap (λ l. xs ++ l) (all_back id_item id_told (λ x. refl) ys))

pub entry_back : (x : Entry) → entry_told (entry_row x, written_bytes x) ≡ without_batches x
unfolding entry_told of_name number number_in at length_in usage_in place_in algorithm_in sharing_in tiling_in format_in value_told
entry_back (entry.Pool id info) = refl
entry_back (entry.Buffer id info) = refl
entry_back (entry.Image id info) = refl
entry_back (entry.Memory id info) = refl
entry_back (entry.Free m) = refl
entry_back (entry.Destroy r) = refl
entry_back (entry.DropPool p) = refl
entry_back (entry.Map b) = refl
entry_back (entry.Unmap b) = refl
entry_back (entry.Write b o bytes) = refl
entry_back (entry.Read b o n) = refl
entry_back (entry.Flush b o n) = refl
entry_back (entry.Invalidate b o n) = refl
entry_back (entry.Semaphore id n) = refl
entry_back (entry.Event id) = refl
entry_back (entry.Signal s v) = refl
entry_back (entry.Wait waits) = ap entry.Wait (all_back value_item value_told (λ v. refl) waits)
entry_back (entry.Submit q bs) = refl
entry_back (entry.Defrag id p n k) = refl
entry_back (entry.Pass d) = refl
entry_back (entry.EndPass d xs ys) =
    ap (λ l. entry.EndPass d (take (length xs) l) (drop (length xs) l)) (ids_back xs ys)
    ∙ (ap (λ l. entry.EndPass d l (drop (length xs) (xs ++ ys))) (take-append_seam xs ys) ∙ ap (λ l. entry.EndPass d xs l) (drop-append_seam xs ys))
entry_back (entry.EndDefrag d) = refl
