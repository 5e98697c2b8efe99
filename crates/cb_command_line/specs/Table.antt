-- The table of the commands: of each its files, and its options with what their values have to be, their defaults, and
-- whether they are required. Where the names of a choice stand in memory doesn't matter, and is (0, 0) here.
use Rattle.std.specs.Prelude.{◌≡◌, ◌++◌, List, [], ◌∷◌, Some, map, pos, negsuc, codes, option_map, length, true, false}
use Rattle.std.specs.Borrow.{Bor}
use Rattle.clap.specs.Walk.{Rule, Text, rule_of, texts}
use Rattle.clap.specs.Simple.{App, Shape, new_rule, new_shape, shape_of}
use Rattle.clap.specs.declared.builder.arg.Arg.{Arg}
use Rattle.clap.specs.declared.builder.command.Command.{Command}
use Rattle.clap.specs.declared.builder.action.ArgAction.TheVariants.{Set, SetTrue, Version}
use Rattle.clap.specs.declared.builder.value_parser.ValueParser.{ValueParser}
use Rattle.clap.specs.declared.builder.value_parser.ValueParser.TheVariants as a
use Rattle.cb_command_line.specs.declared.commands.Choice.{Choice}
use Rattle.cb_command_line.specs.declared.commands.Outline.{Outline}
use Rattle.cb_semirings.specs.declared.names.TheConstants.{NAMES}

-- ---- what a table is made of

-- a file, by the name that help gives it
abbrev pub file : Text → Rule
file name = record (new_rule name) { required = true }

-- an option that takes a value
abbrev pub option : Text → ValueParser → Rule
option name value = record (new_rule name) {
  long = Some name;
  action = Some Set;
  value_names = 1;
  parser = Some value;
}

abbrev pub required : Rule → Rule
required rule = record rule { required = true }

abbrev pub by_default : Text → Rule → Rule
by_default value rule = record rule { defaults = value ∷ [] }

-- an option that takes no value
abbrev pub flag : Text → Rule
flag name = record (new_rule name) { long = Some name; action = Some SetTrue; parser = Some a.Bool }

abbrev pub placed : Text → Bor Text
placed name = record { ref_ptr = (0, 0); now = name }

-- one of these names
abbrev pub one_of_these : List Text → ValueParser
one_of_these names = a.Names (record { ref_ptr = (0, 0); now = map placed names })

-- a whole number of 64 bits, and the number of a row, a column or a vertex
abbrev pub whole : ValueParser
whole = a.Unsigned 0 18446744073709551615

abbrev pub place_number : ValueParser
place_number = a.Unsigned 1 2147483647

-- a command, with its own options
pub record Line : Type 0 where
  pub name : Text
  pub files : List Text
  pub options : List Rule

abbrev pub command : Text → List Text → List Rule → Line
command name files options = record { name = name; files = files; options = options }

-- a command with options that it shares with others before and after its own
abbrev pub shape_of_line : List Rule → List Rule → Line → Shape
shape_of_line first last line = record (new_shape line.name) {
  rules = map file line.files ++ (first ++ (line.options ++ last));
}

-- ---- the table

abbrev pub one : List Text
one = codes "A" ∷ []

abbrev pub two : List Text
two = codes "A" ∷ codes "B" ∷ []

abbrev pub with_vector : List Text
with_vector = codes "A" ∷ codes "x" ∷ []

abbrev pub with_sources : List Text
with_sources = codes "A" ∷ codes "s" ∷ []

-- the commands over a semiring that ranks can compute
abbrev pub operation_lines : List Line
operation_lines =
    command (codes "multiply") two (option (codes "mask") a.String ∷ flag (codes "trace") ∷ [])
    ∷ command (codes "spmv") with_vector []
    ∷ command (codes "transpose") one []
    ∷ command (codes "reduce") one
    (by_default (codes "rows") (option (codes "by") (one_of_these (codes "rows" ∷ codes "columns" ∷ []))) ∷ [])
    ∷ command (codes "add") two []
    ∷ command (codes "times") two []
    ∷ command (codes "prune") one
    (required (option (codes "test") (one_of_these (codes "below" ∷ codes "above" ∷ codes "equal" ∷ [])))
    ∷ required (option (codes "value") whole) ∷ [])
    ∷ []

-- the commands over a semiring that ranks can't compute
abbrev pub selection_lines : List Line
selection_lines =
    command (codes "select") one
    (required (option (codes "region")
    (one_of_these (codes "lower" ∷ codes "upper" ∷ codes "diagonal" ∷ codes "off-diagonal" ∷ [])))
    ∷ by_default (codes "0") (option (codes "diagonal") (a.Signed (negsuc 2147483646) (pos 2147483647))) ∷ [])
    ∷ command (codes "apply") one
    (required (option (codes "function")
    (one_of_these (codes "constant" ∷ codes "plus" ∷ codes "times" ∷ codes "row" ∷ codes "column" ∷ [])))
    ∷ option (codes "value") whole ∷ [])
    ∷ command (codes "diagonal") one
    (by_default (codes "column") (option (codes "as") (one_of_these (codes "column" ∷ codes "matrix" ∷ []))) ∷ [])
    ∷ command (codes "kron") two []
    ∷ command (codes "power") one (required (option (codes "exponent") (a.Unsigned 1 4294967295)) ∷ [])
    ∷ command (codes "extract") one (option (codes "rows") a.String ∷ option (codes "columns") a.String ∷ [])
    ∷ command (codes "assign") two
    (required (option (codes "row") place_number) ∷ required (option (codes "column") place_number) ∷ [])
    ∷ []

abbrev pub source : Rule
source = required (option (codes "source") place_number)

-- the commands on graphs that ranks can compute
abbrev pub search_lines : List Line
search_lines = command (codes "bfs") one (source ∷ []) ∷ command (codes "relax") one (source ∷ []) ∷ []

-- the other commands on graphs
abbrev pub graph_lines : List Line
graph_lines =
    command (codes "bfs-from") with_sources []
    ∷ command (codes "relax-from") with_sources []
    ∷ command (codes "bfs-given") with_vector []
    ∷ command (codes "relax-given") with_vector []
    ∷ command (codes "parents") one (source ∷ [])
    ∷ command (codes "components") one []
    ∷ command (codes "triangles") one
    (by_default (codes "graph") (option (codes "by") (one_of_these (codes "graph" ∷ codes "vertex" ∷ []))) ∷ [])
    ∷ command (codes "degrees") one
    (by_default (codes "row") (option (codes "by") (one_of_these (codes "row" ∷ codes "column" ∷ []))) ∷ [])
    ∷ []

abbrev pub semiring_option : Rule
semiring_option = by_default (codes "plus-times") (option (codes "semiring") (one_of_these (map (λ name. name.now) NAMES)))

abbrev pub rank_options : List Rule
rank_options =
    option (codes "grid") (a.Unsigned 1 6)
    ∷ option (codes "engine") (one_of_these (codes "plain" ∷ codes "ranks" ∷ []))
    ∷ option (codes "lane") (a.Unsigned 1 64)
    ∷ []

-- all commands, each with its options and those that it shares
unfoldable pub all_shapes : List Shape
all_shapes =
    map (shape_of_line (semiring_option ∷ []) rank_options) operation_lines
    ++ (map (shape_of_line (semiring_option ∷ []) []) selection_lines
    ++ (map (shape_of_line [] rank_options) search_lines ++ map (shape_of_line [] []) graph_lines))

-- `--version`, short `-V`
abbrev pub version_option : Rule
version_option = record (new_rule (codes "version")) {
  long = Some (codes "version");
  short = Some 86;
  action = Some Version;
  parser = Some a.String;
}

-- the program before it has commands: one has to be named, and `help` is none
abbrev pub start_shape : Shape
start_shape = record (new_shape (codes "cbgrid")) {
  has_version = true;
  disable_help_subcommand = true;
  disable_version_flag = true;
  subcommand_required = true;
}

-- the program with its commands
abbrev pub top_shape : Shape
top_shape = record start_shape { rules = version_option ∷ []; is_leaf = false }

abbrev pub table : App
table = record { top = top_shape; subs = all_shapes }

-- ---- a command that `clap` builds, but for where names stand in memory

abbrev pub plain_parser : ValueParser → ValueParser
plain_parser (a.Names names) = one_of_these (texts names.now)
plain_parser parser = parser

abbrev pub plain_rule : Rule → Rule
plain_rule rule = record rule { parser = option_map plain_parser rule.parser }

abbrev pub plain_shape : Shape → Shape
plain_shape shape = record shape { rules = map plain_rule shape.rules }

abbrev pub arg_rule : Arg → Rule
arg_rule arg = plain_rule (rule_of arg)

abbrev pub command_shape : Command → Shape
command_shape command = plain_shape (shape_of command)

-- the command is that of the table
pub record IsOfTable (app : App) : Type 0 where
  pub top : plain_shape app.top ≡ top_shape
  pub subs : map plain_shape app.subs ≡ all_shapes

-- ---- what an outline says

abbrev pub choice_rule : Choice → Rule
choice_rule choice = plain_rule (record (new_rule choice.name.now) {
  long = Some choice.name.now;
  action = Some choice.action;
  value_names = length choice.value.now;
  parser = Some choice.parser;
  defaults = texts choice.default.now;
  required = choice.is_required;
})

abbrev pub outline_line : Outline → Line
outline_line outline = command outline.name.now (texts outline.files.now) (map choice_rule outline.options.now)

-- the arguments of a command, between options that it shares
abbrev pub rules_between : List Choice → List Choice → Outline → List Rule
rules_between first last outline = (shape_of_line (map choice_rule first) (map choice_rule last) (outline_line outline)).rules
