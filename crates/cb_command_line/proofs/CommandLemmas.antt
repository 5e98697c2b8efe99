-- What `clap` builds of the outlines of commands, and why the words decide what it finds.
use Rattle.std.proofs.Common.{◌≡◌, ◌∙◌, ◌&&◌, ◌++◌, ◌+◌, ◌<◌, ℕ, ap₂, get_or, length, take, Bool, true, false, not, refl, sym, ap, List, [], ◌∷◌, map, append-nil, append_assoc, true≢false}
use Rattle.std.specs.List.{list_all}
use Rattle.std.proofs.lemmas.List.{map-append, take_more}
use Rattle.std.proofs.lemmas.List.Folds.{list_all-append}
use Rattle.std.proofs.lemmas.Simd.{map-map}
use Rattle.std.specs.Borrow.{Bor}
use Rattle.std.specs.Prelude.{is_some}
use Rattle.clap.specs.Walk.{Rule, Text, is_empty, rule_of, texts}
use Rattle.clap.specs.Simple.{App, Shape, app_of, new_shape, shape_of}
use Rattle.clap.specs.Built.{AddsArg, AddsInTurn, AddsSubcommand}
use Rattle.clap.specs.declared.builder.arg.Arg.{Arg}
use Rattle.clap.specs.declared.builder.command.Command.{Command}
use Rattle.clap.specs.declared.builder.command.Command.TheViews.{out-Command as fields_of}
use Rattle.cb_command_line.specs.Table.{IsOfTable, Line, all_shapes, arg_rule, choice_rule, command_shape, file, outline_line, plain_rule, plain_shape, rules_between, shape_of_line, start_shape, version_option}
use Rattle.cb_command_line.specs.declared.commands.Choice.{Choice}
use Rattle.cb_command_line.specs.declared.commands.Outline.{Outline}

both : (a b : Bool) → (a && b) ≡ true → (a ≡ true) × (b ≡ true)
both true b e = (refl, e)
both false b e = absurd (true≢false (sym e))

right : (a b : Bool) → (a && b) ≡ true → b ≡ true
right a b e = (both a b e).1

unnot : (b : Bool) → not b ≡ true → b ≡ false
unnot false e = refl
unnot true e = absurd (true≢false (sym e))

-- ---- arguments

abbrev pub is_simple_rule : Rule → Bool
is_simple_rule rule = rule.is_simple

-- a simple argument is no global one
is_local : (a : Arg) → (arg_rule a).is_simple ≡ true → a.global ≡ false
is_local a e =
    let last : Bool = not a.last && not a.global in
    let equals : Bool = not a.require_equals && last in
    let negative : Bool = not a.allow_negative_numbers && equals in
    let hyphen : Bool = not a.allow_hyphen_values && negative in
    let terminator : Bool = not (is_some a.terminator) && hyphen in
    let delimiter : Bool = not (is_some a.val_delim) && terminator in
    let groups : Bool = is_empty a.groups.items && delimiter in
    let defaults : Bool = is_empty a.default_vals_ifs.items && groups in
    let at_defaults : defaults ≡ true = right (is_empty a.overrides.items) defaults e in
    let at_groups : groups ≡ true = right (is_empty a.default_vals_ifs.items) groups at_defaults in
    let at_delimiter : delimiter ≡ true = right (is_empty a.groups.items) delimiter at_groups in
    let at_terminator : terminator ≡ true = right (not (is_some a.val_delim)) terminator at_delimiter in
    let at_hyphen : hyphen ≡ true = right (not (is_some a.terminator)) hyphen at_terminator in
    let at_negative : negative ≡ true = right (not a.allow_hyphen_values) negative at_hyphen in
    let at_equals : equals ≡ true = right (not a.allow_negative_numbers) equals at_negative in
    let at_last : last ≡ true = right (not a.require_equals) last at_equals in
    unnot a.global (right (not a.last) (not a.global) at_last)

pub arg_added : (old : Command) (a : Arg) (new : Command) → AddsArg old a new → (arg_rule a).is_simple ≡ true
    → command_shape new ≡ record (command_shape old) { rules = (command_shape old).rules ++ arg_rule a ∷ [] }
arg_added old a new step simple =
    ap (λ (x : App). plain_shape x.top) (step.shape (is_local a simple))
    ∙ ap (λ rs. record (command_shape old) { rules = rs }) (map-append plain_rule (shape_of old).rules (rule_of a ∷ []))

pub args_added : (old new : Command) (args : List Arg) → AddsInTurn AddsArg old args new → list_all is_simple_rule (map arg_rule args) ≡ true
    → command_shape new ≡ record (command_shape old) { rules = (command_shape old).rules ++ map arg_rule args }
args_added old new [] e simple =
    sym (ap command_shape e) ∙ ap (λ rs. record (command_shape old) { rules = rs }) (sym (append-nil (command_shape old).rules))
args_added old new (a ∷ rest) h simple =
    let parts = both (arg_rule a).is_simple (list_all is_simple_rule (map arg_rule rest)) simple in
    args_added h.0 new rest h.2 parts.1
    ∙ ap (λ (s : Shape). record s { rules = s.rules ++ map arg_rule rest }) (arg_added old a h.0 h.1 parts.0)
    ∙ ap (λ rs. record (command_shape old) { rules = rs }) (append_assoc (command_shape old).rules (arg_rule a ∷ []) (map arg_rule rest))

-- the rules of an outline are simple
files_simple : (names : List Text) → list_all is_simple_rule (map file names) ≡ true
files_simple [] = refl
files_simple (name ∷ rest) = files_simple rest

choices_simple : (choices : List Choice) → list_all is_simple_rule (map choice_rule choices) ≡ true
choices_simple [] = refl
choices_simple (choice ∷ rest) = choices_simple rest

joined_simple : (xs ys : List Rule) → list_all is_simple_rule xs ≡ true → list_all is_simple_rule ys ≡ true → list_all is_simple_rule (xs ++ ys) ≡ true
joined_simple xs ys x y = list_all-append is_simple_rule xs ys ∙ rw (x, y) refl

pub rules_simple : (first last : List Choice) (outline : Outline) → list_all is_simple_rule (rules_between first last outline) ≡ true
rules_simple first last outline =
    let files : List Rule = map file (texts outline.files.now) in
    let own : List Rule = map choice_rule outline.options.now in
    let end : list_all is_simple_rule (own ++ map choice_rule last) ≡ true =
    joined_simple own (map choice_rule last) (choices_simple outline.options.now) (choices_simple last) in
    joined_simple files (map choice_rule first ++ (own ++ map choice_rule last)) (files_simple (texts outline.files.now))
    (joined_simple (map choice_rule first) (own ++ map choice_rule last) (choices_simple first) end)

-- a command with the arguments of an outline
pub made_of : (start made : Command) (args : List Arg) (first last : List Choice) (outline : Outline) → command_shape start ≡ new_shape outline.name.now
    → map arg_rule args ≡ rules_between first last outline → AddsInTurn AddsArg start args made
    → command_shape made ≡ shape_of_line (map choice_rule first) (map choice_rule last) (outline_line outline)
made_of start made args first last outline starts rules added =
    args_added start made args added (ap (list_all is_simple_rule) rules ∙ rules_simple first last outline)
    ∙ ap (λ (s : Shape). record s { rules = s.rules ++ map arg_rule args }) starts
    ∙ ap (λ rs. record (new_shape outline.name.now) { rules = rs }) rules

-- four lists, one after the other
pub four_joined : {X : Type 0} (a b c d e x y z w : List X) → x ≡ a ++ b → y ≡ x ++ c → z ≡ y ++ d → w ≡ z ++ e → w ≡ a ++ (b ++ (c ++ (d ++ e)))
four_joined {X} a b c d e x y z w p q r s =
    let so_far : z ≡ ((a ++ b) ++ c) ++ d = r ∙ ap (λ v. v ++ d) (q ∙ ap (λ v. v ++ c) p) in
    let regrouped : (((a ++ b) ++ c) ++ d) ++ e ≡ a ++ (b ++ (c ++ (d ++ e))) = simp append_assoc in
    s ∙ ap (λ v. v ++ e) so_far ∙ regrouped

pub files_named : (names : List (Bor Text)) → map (λ name. file name.now) names ≡ map file (texts names)
files_named names = sym (map-map file (λ (name : Bor Text). name.now) names)

-- ---- commands

abbrev pub shape_between : List Choice → List Choice → Outline → Shape
shape_between first last outline = shape_of_line (map choice_rule first) (map choice_rule last) (outline_line outline)

-- one more command, of the next outline
pub commands_more : (first last : List Choice) (outlines : List Outline) (i : ℕ) (d : Outline) (commands initial : List Command) (made : Command) → i < length outlines
    → command_shape made ≡ shape_between first last (get_or outlines i d)
    → map command_shape commands ≡ map command_shape initial ++ map (shape_between first last) (take i outlines)
    → map command_shape (commands ++ made ∷ []) ≡ map command_shape initial ++ map (shape_between first last) (take (i + 1) outlines)
commands_more first last outlines i d commands initial made lt is_made so_far =
    let old : List Shape = map command_shape initial in
    let done : List Shape = map (shape_between first last) (take i outlines) in
    map-append command_shape commands (made ∷ []) ∙ ap₂ (λ (xs : List Shape) (x : Shape). xs ++ x ∷ []) so_far is_made
    ∙ append_assoc old done (shape_between first last (get_or outlines i d) ∷ [])
    ∙ ap (λ ys. old ++ ys) (sym (map-append (shape_between first last) (take i outlines) (get_or outlines i d ∷ []))
    ∙ ap (map (shape_between first last)) (sym (take_more outlines i d lt)))

pub lines_of : (first last : List Choice) (outlines : List Outline) (f l : List Rule) (lines : List Line)
    → map choice_rule first ≡ f → map choice_rule last ≡ l → map outline_line outlines ≡ lines
    → map (λ o. shape_of_line (map choice_rule first) (map choice_rule last) (outline_line o)) outlines ≡ map (shape_of_line f l) lines
lines_of first last outlines f l lines is_f is_l are =
    sym (map-map (shape_of_line (map choice_rule first) (map choice_rule last)) outline_line outlines)
    ∙ ap (map (shape_of_line (map choice_rule first) (map choice_rule last))) are
    ∙ ap (λ x. map (shape_of_line x (map choice_rule last)) lines) is_f ∙ ap (λ x. map (shape_of_line f x) lines) is_l

abbrev pub is_plain_shape : Shape → Bool
is_plain_shape shape = shape.is_plain

has_no_globals : (c : Command) → (command_shape c).is_plain ≡ true → (fields_of c).has_globals ≡ false
has_no_globals c e = unnot (fields_of c).has_globals (both _ _ (right _ _ (right _ _ e))).0

pub subs_added : (old new : Command) (cs : List Command) → AddsInTurn AddsSubcommand old cs new → list_all is_plain_shape (map command_shape cs) ≡ true
    → map plain_shape (app_of new).subs ≡ map plain_shape (app_of old).subs ++ map command_shape cs
subs_added old new [] e plain = ap (λ (c : Command). map plain_shape (app_of c).subs) (sym e) ∙ sym (append-nil (map plain_shape (app_of old).subs))
subs_added old new (c ∷ rest) h plain =
    let parts = both (command_shape c).is_plain (list_all is_plain_shape (map command_shape rest)) plain in
    subs_added h.0 new rest h.2 parts.1
    ∙ ap (λ (x : App). map plain_shape x.subs ++ map command_shape rest) (h.1.shape (has_no_globals c parts.0))
    ∙ ap (λ ss. ss ++ map command_shape rest) (map-append plain_shape (app_of old).subs (shape_of c ∷ []))
    ∙ append_assoc (map plain_shape (app_of old).subs) (command_shape c ∷ []) (map command_shape rest)

pub top_added : (old new c : Command) (cs : List Command) → AddsInTurn AddsSubcommand old (c ∷ cs) new → list_all is_plain_shape (map command_shape (c ∷ cs)) ≡ true
    → (app_of new).top ≡ record (app_of old).top { is_leaf = false }
top_added old new c [] h plain =
    let parts = both (command_shape c).is_plain true plain in
    ap (λ (x : Command). (app_of x).top) (sym h.2) ∙ ap (λ (x : App). x.top) (h.1.shape (has_no_globals c parts.0))
top_added old new c (d ∷ rest) h plain =
    let parts = both (command_shape c).is_plain (list_all is_plain_shape (map command_shape (d ∷ rest))) plain in
    top_added h.0 new d rest h.2 parts.1 ∙ ap (λ (x : App). record x.top { is_leaf = false }) (h.1.shape (has_no_globals c parts.0))

all_plain : list_all is_plain_shape all_shapes ≡ true
unfolding all_shapes
all_plain = refl

has_some : List Shape → Bool
has_some [] = false
has_some (s ∷ rest) = true

some_shapes : all_shapes ≡ [] → ⊥
unfolding all_shapes has_some
some_shapes e = true≢false (ap has_some e)

pub of_table : (start m new : Command) (cs : List Command) (v : Arg) → app_of start ≡ record { top = start_shape; subs = [] }
    → AddsInTurn AddsSubcommand start cs m → map command_shape cs ≡ all_shapes → AddsArg m v new → arg_rule v ≡ version_option
    → IsOfTable (app_of new)
of_table start m new [] v starts added shapes step version = absurd (some_shapes (sym shapes))
of_table start m new (c ∷ rest) v starts added shapes step version =
    let plain : list_all is_plain_shape (map command_shape (c ∷ rest)) ≡ true = ap (list_all is_plain_shape) shapes ∙ all_plain in
    let simple : (arg_rule v).is_simple ≡ true = ap (λ (r : Rule). r.is_simple) version in
    let tops : (app_of m).top ≡ record start_shape { is_leaf = false } =
    top_added start m c rest added plain ∙ ap (λ (x : App). record x.top { is_leaf = false }) starts in
    record {
      top = arg_added m v new step simple
          ∙ ap (λ (s : Shape). record (plain_shape s) { rules = (plain_shape s).rules ++ arg_rule v ∷ [] }) tops
          ∙ ap (λ (r : Rule). record start_shape { rules = r ∷ []; is_leaf = false }) version;
      subs = ap (λ (x : App). map plain_shape x.subs) (step.shape (is_local v simple))
          ∙ subs_added start m (c ∷ rest) added plain
          ∙ ap (λ (x : App). map plain_shape x.subs ++ map command_shape (c ∷ rest)) starts ∙ shapes;
    }
