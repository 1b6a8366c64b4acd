-- Inner. What a task tells the board, and the tasks of a run before its next events.
use Rattle.std.specs.Prelude.{◌≡◌, if◌then◌else◌, ◌==◌, ◌^◌, ◌<◌}
use Rattle.kahn_crew.specs.inner.Words.{ℕ, Bool, true, false, List, map, option_map, option_map_or, position, Option, Some, None, Schema, Actual, Reads, Writes, network_of, instance_at, actual_at, role_at, is_output, count, end_at, TaskEnd, rows_of, Continues, Tasked, Work, Summary, TaskStanding, length, slice_get, Program, Lists, inputs_of, AreJoinedOn, IsDelivered, some, get_elem?, dealt, wired, Terms, Input}
use Rattle.kahn_job.specs.declared.task.TaskStanding.TheVariants as standing

abbrev pub work_of : Tasked → Work
work_of x = x.work

-- the ends of all tasks
abbrev pub task_rows : List Tasked → List (List TaskEnd)
task_rows xs = rows_of (map work_of xs)

-- what is handed to a parameter of the task's instance
abbrev pub handed_to_task : Work → ℕ → Actual
handed_to_task w q = actual_at (instance_at (network_of w.cell.network) w.cell.instance) q

-- the channel that is read
abbrev pub read_by : Actual → Option ℕ
read_by (Reads c) = Some c
read_by a = None

-- the channel between processes that is written
abbrev pub written_by : Schema → Actual → Option ℕ
written_by N (Writes c) = if is_output (role_at N c) then None else Some c
written_by N a = None

abbrev pub is_channel : Option ℕ → ℕ → Bool
is_channel o c = option_map_or (λ d. d == c) o false

abbrev pub actuals_here : Work → List Actual
actuals_here w = (instance_at (network_of w.cell.network) w.cell.instance).actuals

-- the parameter that reads the channel, and the one that writes it if it is a channel between processes
abbrev pub reads_at : Work → ℕ → Option ℕ
reads_at w c = position (λ a. is_channel (read_by a) c) (actuals_here w)

abbrev pub writes_at : Work → ℕ → Option ℕ
writes_at w c = position (λ a. is_channel (written_by (network_of w.cell.network) a) c) (actuals_here w)

abbrev pub count_on : List ℕ → Option ℕ → ℕ
count_on xs o = option_map_or (count xs) o 0

-- how many tokens the parameter sent, and how many of them its lane has
abbrev pub wrote_by : Work → Option ℕ → Option (ℕ × ℕ)
wrote_by w o = option_map (λ q. (count w.cell.sent q, (end_at w.ends q).flushed)) o

abbrev pub is_over : TaskStanding → Bool
is_over standing.Ended = true
is_over (standing.Faulted k) = true
is_over s = false

abbrev pub waits_on : Work → TaskStanding → Option ℕ
waits_on w (standing.Dry q) = read_by (handed_to_task w q)
waits_on w s = None

abbrev pub told_tale : Tasked → Option Summary
told_tale t = Some record {
  events = t.work.cell.events;
  has_ended = is_over t.standing;
  waits = waits_on t.work t.standing;
  taken = λ c. count_on t.work.cell.taken (reads_at t.work c);
  wrote = λ c. wrote_by t.work (writes_at t.work c);
}

-- the number of tokens published by each parameter that writes a channel between processes is the one that is known of the channel
abbrev pub AgreesWith : Work → List ℕ → List ℕ → Type 0
AgreesWith w published known =
    (o c : ℕ) → handed_to_task w o ≡ Writes c → is_output (role_at (network_of w.cell.network) c) ≡ false → count published o ≡ count known c

-- what was flushed by the parameter o is published
abbrev pub IsPublished : Tasked → ℕ → Type 0
IsPublished t o =
    (c : ℕ) → handed_to_task t.work o ≡ Writes c → is_output (role_at (network_of t.work.cell.network) c) ≡ false → count t.published o ≡ (end_at t.work.ends o).flushed

-- the second is a later state of the first, between two turns
pub record IsLater (old new : Tasked) : Type 0 where
  pub continues : Continues old new
  pub published : (o : ℕ) → IsPublished new o

-- the task is that of instance p, which may go on; all that it sent was flushed, and counts as published
pub record IsReadyTask (t : Program) (lists : Lists) (watch : Option ℕ) (p : ℕ) (x : Tasked) : Type 0 where
  pub network : x.work.cell.network ≡ t
  pub input : x.work.cell.input ≡ lists
  pub instance : x.work.cell.instance ≡ p
  pub watched : x.work.cell.watch ≡ watch
  pub published : x.published ≡ x.work.cell.sent
  pub delivered : IsDelivered x.work

-- the tasks of all instances, before their first events or after earlier runs
pub record AreReadyTasks (t : Program) (lists : Lists) (watch : Option ℕ) (tasks : List Tasked) : Type 0 where
  pub count : length tasks ≡ length (network_of t).instances
  pub each : (p : ℕ) (x : Tasked) → slice_get tasks p ≡ Some x → IsReadyTask t lists watch p x
  pub joined : (d : ℕ) → AreJoinedOn (network_of t) (task_rows tasks) d

-- n tokens of the channel c are published at the start: the whole list of an input, and what the writer of an inner channel sent
pub record IsNumber (t : Program) (lists : Lists) (tasks : List Tasked) (c n : ℕ) : Type 0 where
  pub given : role_at (network_of t) c ≡ Input → n ≡ length (inputs_of lists c)
  pub sent : (p o : ℕ) (x : Tasked) → slice_get tasks p ≡ Some x → actual_at (instance_at (network_of t) p) o ≡ Writes c →
      is_output (role_at (network_of t) c) ≡ false → n ≡ count x.work.cell.sent o
  pub few : n < 2 ^ 48

-- the board was made of such tasks, and that many tokens are published
pub record HasBegun (t : Program) (lists : Lists) (watch : Option ℕ) (key : Terms Tasked) : Type 0 where
  pub network : key.network.value ≡ t
  pub ready : AreReadyTasks t lists watch key.cells.value.items
  pub numbers : (c : ℕ) → c < length (network_of t).channels → IsNumber t lists key.cells.value.items c ((dealt told_tale key).published c)

-- the task is that of the instance p of this program
abbrev pub IsTaskOf : Program → ℕ → Tasked → Type 0
IsTaskOf t p x = (x.work.cell.network ≡ t) × (x.work.cell.instance ≡ p)

-- the board was made with the tasks of a program's instances in order, on the input, and the network and the code are of that program
pub record FitTogether (key : Terms Tasked) (lent compiled : Program) (lists : Lists) : Type 0 where
  pub network : lent ≡ key.network.value
  pub code : compiled ≡ key.network.value
  pub count : length key.cells.value.items ≡ (wired key).instances
  pub cells : (p : ℕ) (x : Tasked) → get_elem? key.cells.value.items p ≡ some x → IsTaskOf key.network.value p x
  pub given : (p : ℕ) (x : Tasked) → get_elem? key.cells.value.items p ≡ some x → x.work.cell.input ≡ lists
