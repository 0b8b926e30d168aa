-- The kinds of block, in one place: what each makes something of, whether it has a function, whether it gives, how many ports it
-- has, and which options it may have. Each match by kinds names them all, and what can be told by the unit is told by it.
use Rattle.std.specs.Prelude.{ℕ, Bool, true, false, not, ◌||◌, List, [], ◌∷◌, Option, unwrap_or}
use Rattle.flow_link.specs.declared.draft.BlockKind.{BlockKind}
use Rattle.flow_link.specs.declared.draft.BlockKind.TheVariants.{Buffer, Broadcast, WriteOnce, Action, Transform, TransformMany, Batch, Join, BatchedJoin}
use Rattle.flow_link.specs.Lists.{every}
use Rattle.flow_link.specs.declared.kinds.BlockUnit.{BlockUnit}
use Rattle.flow_link.specs.declared.kinds.BlockUnit.TheVariants.{Message, Row, Tuple, Group, Copy, OneCopy}
use Rattle.flow_link.specs.declared.kinds.KindOptions.{KindOptions}
use Rattle.flow_link.specs.declared.kinds.OptionRule.{OptionRule}
use Rattle.flow_link.specs.declared.kinds.OptionRule.TheVariants.{Optional, Required, Forbidden}

-- What is said of each kind

-- what it makes something of at a time
abbrev pub unit_of : BlockKind → BlockUnit
unit_of Buffer = Message
unit_of Broadcast = Copy
unit_of WriteOnce = OneCopy
unit_of Action = Message
unit_of Transform = Message
unit_of TransformMany = Message
unit_of Batch = Row
unit_of Join = Tuple
unit_of BatchedJoin = Group

abbrev pub has_work : BlockKind → Bool
has_work Buffer = false
has_work Broadcast = false
has_work WriteOnce = false
has_work Action = true
has_work Transform = true
has_work TransformMany = true
has_work Batch = false
has_work Join = false
has_work BatchedJoin = false

-- an action gives nothing on
abbrev pub gives_nothing : BlockKind → Bool
gives_nothing Buffer = false
gives_nothing Broadcast = false
gives_nothing WriteOnce = false
gives_nothing Action = true
gives_nothing Transform = false
gives_nothing TransformMany = false
gives_nothing Batch = false
gives_nothing Join = false
gives_nothing BatchedJoin = false

-- a block whose messages come from outside or over links, and go over links; with a function, and with several ports
abbrev pub plain_options : KindOptions
plain_options = record { input = Optional; output = Optional; capacity = Optional; work = Forbidden; lanes = Forbidden; size = Forbidden; ports = Forbidden; greedy = Forbidden }

abbrev pub work_options : KindOptions
work_options = record plain_options { work = Required; lanes = Optional }

abbrev pub port_options : KindOptions
port_options = record plain_options { input = Forbidden; ports = Optional }

abbrev pub options_of : BlockKind → KindOptions
options_of Buffer = plain_options
options_of Broadcast = plain_options
options_of WriteOnce = record plain_options { capacity = Forbidden }
options_of Action = record work_options { output = Forbidden }
options_of Transform = work_options
options_of TransformMany = work_options
options_of Batch = record plain_options { size = Required }
options_of Join = record port_options { greedy = Optional }
options_of BatchedJoin = record port_options { capacity = Forbidden; size = Required }

-- What the unit says

-- rows of the messages of one port
abbrev pub makes_rows : BlockUnit → Bool
makes_rows Message = false
makes_rows Row = true
makes_rows Tuple = false
makes_rows Group = false
makes_rows Copy = false
makes_rows OneCopy = false

-- tuples of the messages that wait longest at its ports, one from each
abbrev pub makes_tuples : BlockUnit → Bool
makes_tuples Message = false
makes_tuples Row = false
makes_tuples Tuple = true
makes_tuples Group = false
makes_tuples Copy = false
makes_tuples OneCopy = false

-- groups of the messages that came in first, whatever their ports
abbrev pub makes_groups : BlockUnit → Bool
makes_groups Message = false
makes_groups Row = false
makes_groups Tuple = false
makes_groups Group = true
makes_groups Copy = false
makes_groups OneCopy = false

-- copies of each of its messages, to each of its links
abbrev pub copies_each : BlockUnit → Bool
copies_each Message = false
copies_each Row = false
copies_each Tuple = false
copies_each Group = false
copies_each Copy = true
copies_each OneCopy = false

-- copies of the one message that it takes in all, to each of its links
abbrev pub copies_one : BlockUnit → Bool
copies_one Message = false
copies_one Row = false
copies_one Tuple = false
copies_one Group = false
copies_one Copy = false
copies_one OneCopy = true

-- its links share its outputs: each output crosses one of them
abbrev pub shares_out : BlockUnit → Bool
shares_out Message = true
shares_out Row = true
shares_out Tuple = true
shares_out Group = true
shares_out Copy = false
shares_out OneCopy = false

-- it takes messages at several ports
abbrev pub takes_at_ports : BlockUnit → Bool
takes_at_ports Message = false
takes_at_ports Row = false
takes_at_ports Tuple = true
takes_at_ports Group = true
takes_at_ports Copy = false
takes_at_ports OneCopy = false

-- a block that takes messages at several ports has two or three, each other block one
abbrev pub ports_by_unit : BlockUnit → Option ℕ → ℕ
ports_by_unit Message ports = 1
ports_by_unit Row ports = 1
ports_by_unit Tuple ports = unwrap_or ports 2
ports_by_unit Group ports = unwrap_or ports 2
ports_by_unit Copy ports = 1
ports_by_unit OneCopy ports = 1

-- what makes tuples reserves its messages before it takes them, where it is not greedy
abbrev pub reserves_by_unit : BlockUnit → Option Bool → Bool
reserves_by_unit Message greedy = false
reserves_by_unit Row greedy = false
reserves_by_unit Tuple greedy = not (unwrap_or greedy true)
reserves_by_unit Group greedy = false
reserves_by_unit Copy greedy = false
reserves_by_unit OneCopy greedy = false

-- The same of a kind

-- a batch makes rows, a join tuples, a batched join groups
abbrev pub is_batch : BlockKind → Bool
is_batch kind = makes_rows (unit_of kind)

abbrev pub is_join : BlockKind → Bool
is_join kind = makes_tuples (unit_of kind)

abbrev pub is_batched_join : BlockKind → Bool
is_batched_join kind = makes_groups (unit_of kind)

abbrev pub has_ports : BlockKind → Bool
has_ports kind = takes_at_ports (unit_of kind)

abbrev pub is_broadcast : BlockKind → Bool
is_broadcast kind = copies_each (unit_of kind)

abbrev pub is_write_once : BlockKind → Bool
is_write_once kind = copies_one (unit_of kind)

abbrev pub is_one_taker : BlockKind → Bool
is_one_taker kind = shares_out (unit_of kind)

abbrev pub ports_by_kind : BlockKind → Option ℕ → ℕ
ports_by_kind kind ports = ports_by_unit (unit_of kind) ports

abbrev pub reserves_by_kind : BlockKind → Option Bool → Bool
reserves_by_kind kind greedy = reserves_by_unit (unit_of kind) greedy

-- whether an option may be absent, must be there, or must not
abbrev pub allows : OptionRule → Bool → Bool
allows Optional present = true
allows Required present = present
allows Forbidden present = not present

-- The ranges of the numbers among the options

-- of a capacity, and of how many messages may cross a link
abbrev pub most_messages : ℕ
most_messages = 2147483647

abbrev pub most_lanes : ℕ
most_lanes = 16

abbrev pub largest_group : ℕ
largest_group = 4096

abbrev pub fewest_ports : ℕ
fewest_ports = 2

abbrev pub most_ports : ℕ
most_ports = 3

-- All kinds, for what is told of each by computing

abbrev pub all_kinds : List BlockKind
all_kinds = Buffer ∷ Broadcast ∷ WriteOnce ∷ Action ∷ Transform ∷ TransformMany ∷ Batch ∷ Join ∷ BatchedJoin ∷ []

-- a test of a kind comes out so
abbrev pub comes_out : Bool → Bool → Bool
comes_out true found = found
comes_out false found = not found

-- wherever one test comes out so, the other does so
abbrev pub leads_to : (BlockKind → Bool) → Bool → (BlockKind → Bool) → Bool → Bool
leads_to test one other then_so = every (λ kind. not (comes_out one (test kind)) || comes_out then_so (other kind)) all_kinds
