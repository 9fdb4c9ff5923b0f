-- Commands and steps that are read back from their rows.
use Rattle.std.proofs.Common.{◌≡◌, ◌⊎◌, ◌∙◌, ◌++◌, ℕ, List, [], ◌∷◌, map, drop, refl, ap, sym, inl, inr}
use Rattle.vk_model.specs.declared.command.Cmd.{Cmd}
use Rattle.vk_model.specs.declared.command.Cmd.TheVariants as cmd
use Rattle.vk_model.specs.declared.entry.Batch.{Batch}
use Rattle.vk_model.specs.declared.entry.SemaphoreSubmit.{SemaphoreSubmit}
use Rattle.vk_row_text.specs.declared.names.BatchName.{BatchName}
use Rattle.vk_row_text.specs.declared.names.BatchName.TheVariants as batch
use Rattle.vk_row_text.specs.declared.names.RowName.TheVariants.{OfEntry, InBatch, OfItem}
use Rattle.vk_row_text.specs.declared.steps.Step.{Step}
use Rattle.vk_row_text.specs.declared.steps.Step.TheVariants as step
use Rattle.vk_row_text.specs.declared.words.Word.{Word}
use Rattle.vk_row_text.specs.declared.words.Word.TheVariants.{Number}
use Rattle.vk_row_text.specs.Words.{CallWords, RowWords}
use Rattle.vk_row_text.specs.Regions.{range_item, copy_item, buffer_image_item, image_item, dependency_item, element_item}
use Rattle.vk_row_text.specs.Rows.{command_row, submit_row, batch_row}
use Rattle.vk_row_text.specs.Telling.{updated_bytes, command_rows, step_rows, step_points, StepRows, StepPoints, RowsTellPoints}
use Rattle.vk_row_text.proofs.Telling.{number, number_in, at, length_in, stages_in, accesses_in, range_told, copy_told, buffer_image_told, image_told, dependency_told, element_told, element_back, all_back, entry_told, entry_back}

-- the numbers of words but the last
but_last : List Word → List ℕ
but_last [] = []
but_last (w ∷ []) = []
but_last (w ∷ (v ∷ ws)) = number_in w ∷ but_last (v ∷ ws)

color_back : (color : List ℕ) (w : Word) → but_last (map Number color ++ (w ∷ [])) ≡ color
unfolding but_last number_in
color_back [] w = refl
color_back (n ∷ []) w = refl
color_back (n ∷ (m ∷ ns)) w = ap (λ l. n ∷ l) (color_back (m ∷ ns) w)

of_name : BatchName → List Word → List CallWords → List ℕ → Cmd
of_name batch.FillBuffer ws items bytes = cmd.Fill (number ws 0) (number ws 1) (length_in (at ws 2)) (number ws 3)
of_name batch.UpdateBuffer ws items bytes = cmd.Update (number ws 0) (number ws 1) bytes
of_name batch.CopyBuffer ws items bytes = cmd.Copy (number ws 0) (number ws 1) (map copy_told items)
of_name batch.ClearColorImage ws items bytes = cmd.Clear (number ws 0) (number ws 1) (but_last (drop 2 ws)) (map range_told items)
of_name batch.CopyBufferToImage ws items bytes = cmd.CopyIn (number ws 0) (number ws 1) (number ws 2) (map buffer_image_told items)
of_name batch.CopyImageToBuffer ws items bytes = cmd.CopyOut (number ws 0) (number ws 1) (number ws 2) (map buffer_image_told items)
of_name batch.CopyImage ws items bytes = cmd.CopyImage (number ws 0) (number ws 1) (number ws 2) (number ws 3) (map image_told items)
of_name batch.PipelineBarrier ws items bytes = cmd.Barrier (map element_told items)
of_name batch.SetEvent ws items bytes = cmd.Set (number ws 0) (map dependency_told items)
of_name batch.WaitEvent ws items bytes = cmd.Await (number ws 0) (map dependency_told items)
of_name _ ws items bytes = cmd.Barrier []

command_told : RowWords × List ℕ → Cmd
command_told (((InBatch n, ws), items), bytes) = of_name n ws items bytes
command_told (((OfEntry n, ws), items), bytes) = cmd.Barrier []
command_told (((OfItem n, ws), items), bytes) = cmd.Barrier []

command_back : (c : Cmd) → command_told (command_rows c) ≡ c
unfolding command_told of_name number number_in at length_in stages_in accesses_in range_told copy_told buffer_image_told image_told dependency_told
command_back (cmd.Fill b o n w) = refl
command_back (cmd.Update b o bytes) = refl
command_back (cmd.Copy s d rs) = ap (cmd.Copy s d) (all_back copy_item copy_told (λ r. refl) rs)
command_back (cmd.Clear i l color rs) =
    ap (λ c. cmd.Clear i l c (map range_told (map range_item rs))) (color_back color _) ∙ ap (cmd.Clear i l color) (all_back range_item range_told (λ r. refl) rs)
command_back (cmd.CopyIn b i l rs) = ap (cmd.CopyIn b i l) (all_back buffer_image_item buffer_image_told (λ r. refl) rs)
command_back (cmd.CopyOut i l b rs) = ap (cmd.CopyOut i l b) (all_back buffer_image_item buffer_image_told (λ r. refl) rs)
command_back (cmd.CopyImage s a d b rs) = ap (cmd.CopyImage s a d b) (all_back image_item image_told (λ r. refl) rs)
command_back (cmd.Barrier es) = ap cmd.Barrier (all_back element_item element_told element_back es)
command_back (cmd.Set e ds) = ap (cmd.Set e) (all_back dependency_item dependency_told (λ d. refl) ds)
command_back (cmd.Await e ds) = ap (cmd.Await e) (all_back dependency_item dependency_told (λ d. refl) ds)

submit_told : CallWords → SemaphoreSubmit
submit_told c = record { semaphore = number c.1 0; value = number c.1 1; stages = stages_in (at c.1 2) }

submits_back : (n : BatchName) (ss : List SemaphoreSubmit) → map submit_told (map (submit_row n) ss) ≡ ss
unfolding submit_told number number_in at stages_in
submits_back n ss = all_back (submit_row n) submit_told (λ s. refl) ss

batch_told : List CallWords → List (RowWords × List ℕ) → List CallWords → Batch
batch_told waits commands signals = record { waits = map submit_told waits; commands = map command_told commands; signals = map submit_told signals }

batch_back : (b : Batch) → batch_told (map (submit_row batch.BatchWait) b.waits) (map command_rows b.commands) (map (submit_row batch.BatchSignal) b.signals) ≡ b
unfolding batch_told
batch_back b =
    ap (λ w. record { waits = w; commands = map command_told (map command_rows b.commands); signals = map submit_told (map (submit_row batch.BatchSignal) b.signals) }) (submits_back batch.BatchWait b.waits)
    ∙ (ap (λ c. record { waits = b.waits; commands = c; signals = map submit_told (map (submit_row batch.BatchSignal) b.signals) }) (all_back command_rows command_told command_back b.commands)
    ∙ ap (λ s. record { waits = b.waits; commands = b.commands; signals = s }) (submits_back batch.BatchSignal b.signals))

step_told : StepRows → StepPoints
step_told (inl (e, row)) = inl (e, entry_told row)
step_told (inr (first, (waits, (commands, signals)))) = inr ((number first.1 0, (number first.1 1, number first.1 2)), batch_told waits commands signals)

step_back : (s : Step) → step_told (step_rows s) ≡ step_points s
unfolding step_told number number_in
step_back (step.Entry e x) = ap (λ y. inl (e, y)) (entry_back x.now)
step_back (step.Batch b) = ap (λ c. inr ((b.entry, (b.batch, b.queue)), c)) (batch_back b.content.now)

-- what is read back of each is read back of all
told_all : (ss : List Step) → map step_told (map step_rows ss) ≡ map step_points ss
told_all [] = refl
told_all (s ∷ ss) = ap (λ y. y ∷ map step_told (map step_rows ss)) (step_back s) ∙ ap (λ l. step_points s ∷ l) (told_all ss)

pub tells : RowsTellPoints
tells ss ts same = sym (told_all ss) ∙ (ap (map step_told) same ∙ told_all ts)
