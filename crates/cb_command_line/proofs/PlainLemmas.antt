-- A command of the table is one whose matches the words decide: where names stand in memory makes no difference to that.
use Rattle.std.proofs.Common.{◌≡◌, ◌∙◌, ◌&&◌, ◌++◌, ◌+◌, cond, ℕ, Bool, true, false, not, refl, sym, ap, ap₂, List, [], ◌∷◌, map, Option, Some, None, option_map}
use Rattle.std.specs.Prelude.{if◌then◌else◌, count_by, fold, unwrap_or, is_some}
use Rattle.std.specs.List.{list_all, list_any}
use Rattle.std.proofs.lemmas.List.{map-append}
use Rattle.clap.specs.Walk.{Rule, action_of, is_early_multiple}
use Rattle.clap.specs.Simple.{App, Shape, built, built_above, built_leaf, filled, filled_from, has_simple_rules, help_rule, help_shape, index_after, inherited, is_buildable, is_in_order, is_ready, is_ready_leaf, is_simple, is_simple_leaf, marked_built, on_top, parser_for, version_rule, with_action, with_built_subs, with_filled_rules, with_help_flag, with_help_subcommand, with_index, with_inherited, with_leaf_noted, with_version_flag}
use Rattle.clap.specs.declared.builder.action.ArgAction.{ArgAction}
use Rattle.clap.specs.declared.builder.action.ArgAction.TheVariants.{SetTrue, SetFalse, Count}
use Rattle.clap.specs.declared.builder.value_parser.ValueParser.{ValueParser}
use Rattle.clap.specs.Walk.{Row, Text}
use Rattle.clap.specs.Simple.{HasMatchesOf, subcommand_of, subcommand_rows_of}
use Rattle.clap.specs.declared.parser.matches.ArgMatches.{ArgMatches}
use Rattle.std.proofs.Common.{IfOk, Result, subst}
use Rattle.std.proofs.lemmas.Result.{IfOk-weaker}
use Rattle.cb_command_line.specs.Asked.{IsJobIn}
use Rattle.cb_command_line.specs.Lines.{IsReadAs, read_by}
use Rattle.cb_command_line.specs.declared.jobs.Job.{Job}
use Rattle.cb_command_line.specs.declared.jobs.UsageFault.{UsageFault}
use Rattle.cb_command_line.specs.Table.{IsOfTable, all_shapes, plain_parser, plain_rule, plain_shape, table}

abbrev pub plain_app : App → App
plain_app app = record { top = plain_shape app.top; subs = map plain_shape app.subs }

-- ---- building

given_plain : (x : ArgAction) → plain_parser (parser_for x) ≡ parser_for x
given_plain SetTrue = refl
given_plain SetFalse = refl
given_plain Count = refl
given_plain _ = refl

parser_plain : (p : Option ValueParser) (x : ArgAction) → plain_parser (unwrap_or p (parser_for x)) ≡ unwrap_or (option_map plain_parser p) (parser_for x)
parser_plain (Some p) x = refl
parser_plain None x = given_plain x

filled_plain : (r : Rule) → plain_rule (filled r) ≡ filled (plain_rule r)
filled_plain r = ap (λ p. record (filled r) { parser = Some p }) (parser_plain r.parser (action_of (with_action r)))

all_filled_plain : (i : ℕ) (rules : List Rule) → map plain_rule (filled_from i rules) ≡ filled_from i (map plain_rule rules)
all_filled_plain i [] = refl
all_filled_plain i (r ∷ rest) = ap₂ (λ x xs. with_index i x ∷ xs) (filled_plain r) (all_filled_plain (index_after i r) rest)

one_more : (b : Bool) (rules : List Rule) (r : Rule)
    → map plain_rule (if b then rules else rules ++ r ∷ []) ≡ (if b then map plain_rule rules else map plain_rule rules ++ plain_rule r ∷ [])
one_more true rules r = refl
one_more false rules r = map-append plain_rule rules (r ∷ [])

abbrev Commutes : (Shape → Shape) → Type 0
Commutes f = (s : Shape) → plain_shape (f s) ≡ f (plain_shape s)

help_flag : Commutes with_help_flag
help_flag s = ap (λ rs. record (plain_shape s) { rules = rs }) (one_more s.disable_help_flag s.rules help_rule)

version_flag : Commutes with_version_flag
version_flag s = ap (λ rs. record (plain_shape s) { rules = rs }) (one_more _ s.rules version_rule)

filled_rules : Commutes with_filled_rules
filled_rules s = ap (λ rs. record (plain_shape s) { rules = rs }) (all_filled_plain 1 s.rules)

leaf_noted : Commutes with_leaf_noted
leaf_noted s = refl

marked : Commutes marked_built
marked s = refl

abbrev completed : Shape → Shape
completed s = with_filled_rules (with_version_flag (with_help_flag (with_leaf_noted (marked_built s))))

completed_plain : Commutes completed
completed_plain s =
    let noted : Shape = with_leaf_noted (marked_built s) in
    filled_rules (with_version_flag (with_help_flag noted))
    ∙ ap with_filled_rules (version_flag (with_help_flag noted) ∙ ap with_version_flag (help_flag noted))

leaf_plain : Commutes built_leaf
leaf_plain s = go s.is_built
  where
    go : (b : Bool) → plain_shape (if b then s else completed s) ≡ (if b then plain_shape s else completed (plain_shape s))
    go true = refl
    go false = completed_plain s

all_plain : (f g : Shape → Shape) → ((s : Shape) → plain_shape (f s) ≡ g (plain_shape s)) → (ss : List Shape)
    → map plain_shape (map f ss) ≡ map g (map plain_shape ss)
all_plain f g h [] = refl
all_plain f g h (s ∷ rest) = ap₂ (λ x xs. x ∷ xs) (h s) (all_plain f g h rest)

on_top_plain : (f : Shape → Shape) → Commutes f → (a : App) → plain_app (on_top f a) ≡ on_top f (plain_app a)
on_top_plain f h a = ap (λ t. record (plain_app a) { top = t }) (h a.top)

inherited_plain : (a : App) → plain_app (with_inherited a) ≡ with_inherited (plain_app a)
inherited_plain a = ap (λ ss. record (plain_app a) { subs = ss }) (all_plain (inherited a.top) (inherited (plain_shape a.top)) (λ s. refl) a.subs)

help_plain : (a : App) → plain_app (with_help_subcommand a) ≡ with_help_subcommand (plain_app a)
help_plain a = go a.top.disable_help_subcommand
  where
    go : (b : Bool) → plain_app (if b then a else record { top = record a.top { is_leaf = false }; subs = a.subs ++ help_shape ∷ [] })
        ≡ (if b then plain_app a else record { top = record (plain_app a).top { is_leaf = false }; subs = (plain_app a).subs ++ help_shape ∷ [] })
    go true = refl
    go false = ap (λ ss. record { top = record (plain_app a).top { is_leaf = false }; subs = ss }) (map-append plain_shape a.subs (help_shape ∷ []))

above_plain : (a : App) → plain_app (built_above a) ≡ built_above (plain_app a)
above_plain a =
    let x1 : App = on_top with_leaf_noted a in
    let x2 : App = with_inherited x1 in
    let x3 : App = on_top with_help_flag x2 in
    let x4 : App = on_top with_version_flag x3 in
    let x5 : App = with_help_subcommand x4 in
    on_top_plain with_filled_rules filled_rules x5
    ∙ ap (on_top with_filled_rules) (help_plain x4
    ∙ ap with_help_subcommand (on_top_plain with_version_flag version_flag x3
    ∙ ap (on_top with_version_flag) (on_top_plain with_help_flag help_flag x2
    ∙ ap (on_top with_help_flag) (inherited_plain x1))))

built_plain : (a : App) → plain_app (built a) ≡ built (plain_app a)
built_plain a = go a.top.is_built
  where
    go : (b : Bool) → plain_app (if b then a else with_built_subs (built_above (on_top marked_built a)))
        ≡ (if b then plain_app a else with_built_subs (built_above (on_top marked_built (plain_app a))))
    go true = refl
    go false =
        let x : App = built_above (on_top marked_built a) in
        ap (λ ss. record (plain_app x) { subs = ss }) (all_plain built_leaf built_leaf leaf_plain x.subs)
        ∙ ap with_built_subs (above_plain (on_top marked_built a))

-- ---- tests

simple_rules_plain : (rules : List Rule) → list_all (λ r. r.is_simple) (map plain_rule rules) ≡ list_all (λ r. r.is_simple) rules
simple_rules_plain [] = refl
simple_rules_plain (r ∷ rest) = ap (λ b. r.is_simple && b) (simple_rules_plain rest)

count_from : (n : ℕ) (rules : List Rule) → fold (λ (a : ℕ) (r : Rule). a + cond (is_some r.index) 1 0) n (map plain_rule rules)
    ≡ fold (λ (a : ℕ) (r : Rule). a + cond (is_some r.index) 1 0) n rules
count_from n [] = refl
count_from n (r ∷ rest) = count_from (n + cond (is_some r.index) 1 0) rest

count_plain : (rules : List Rule) → count_by (λ r. is_some r.index) (map plain_rule rules) ≡ count_by (λ r. is_some r.index) rules
count_plain rules = count_from 0 rules

early_plain : (n : ℕ) (rules : List Rule) → list_any (is_early_multiple n) (map plain_rule rules) ≡ list_any (is_early_multiple n) rules
early_plain n [] = refl
early_plain n (r ∷ rest) = rw (early_plain n rest) refl

order_plain : (rules : List Rule) → is_in_order (map plain_rule rules) ≡ is_in_order rules
order_plain rules =
    ap not (early_plain (count_by (λ r. is_some r.index) (map plain_rule rules)) rules
    ∙ ap (λ n. list_any (is_early_multiple n) rules) (count_plain rules))

simple_plain : (s : Shape) → has_simple_rules (plain_shape s) ≡ has_simple_rules s
simple_plain s = ap (λ b. s.is_plain && b) (simple_rules_plain s.rules)

ready_plain : (s : Shape) → is_ready (plain_shape s) ≡ is_ready s
ready_plain s = ap₂ (λ x y. x && y) (simple_plain s) (order_plain s.rules)

simple_leaves : (ss : List Shape) → list_all is_simple_leaf (map plain_shape ss) ≡ list_all is_simple_leaf ss
simple_leaves [] = refl
simple_leaves (s ∷ rest) = ap₂ (λ x y. (s.is_leaf && x) && y) (simple_plain s) (simple_leaves rest)

ready_leaves : (ss : List Shape) → list_all is_ready_leaf (map plain_shape ss) ≡ list_all is_ready_leaf ss
ready_leaves [] = refl
ready_leaves (s ∷ rest) = ap₂ (λ x y. (s.is_leaf && x) && y) (ready_plain s) (ready_leaves rest)

buildable_plain : (a : App) → is_buildable (plain_app a) ≡ is_buildable a
buildable_plain a = ap₂ (λ x y. x && y) (simple_plain a.top) (simple_leaves a.subs)

abbrev ready_app : App → Bool
ready_app a = is_ready a.top && list_all is_ready_leaf a.subs

ready_app_plain : (a : App) → ready_app (plain_app a) ≡ ready_app a
ready_app_plain a = ap₂ (λ x y. x && y) (ready_plain a.top) (ready_leaves a.subs)

is_simple_plain : (a : App) → is_simple (plain_app a) ≡ is_simple a
is_simple_plain a = ap₂ (λ x y. x && y) (buildable_plain a) (ap ready_app (sym (built_plain a)) ∙ ready_app_plain (built a))

-- ---- the table

table_simple : is_simple table ≡ true
unfolding all_shapes
table_simple = refl

abbrev made : Shape → List Shape → App
made top subs = record { top = top; subs = subs }

pub simple_of_table : (app : App) → IsOfTable app → is_simple app ≡ true
simple_of_table app of =
    let same : plain_app app ≡ table = ap₂ made of.top of.subs in
    sym (is_simple_plain app) ∙ ap is_simple same ∙ table_simple

-- ---- what the words ask for

pub read_all : (app : App) (words : List Text) (m : ArgMatches) (processors : ℕ) (r : Result Job UsageFault) → IsOfTable app → HasMatchesOf app words m
    → IfOk r (IsJobIn processors (subcommand_rows_of m)) → IfOk r (IsReadAs processors words)
unfolding read_by
read_all app words m processors r of has h =
    let found : subcommand_rows_of m ≡ subcommand_of app words = (has (simple_of_table app of)).1 in
    IfOk-weaker r (IsJobIn processors (subcommand_rows_of m)) (IsReadAs processors words)
    (λ job is. record { app = app; of_table = of; is_job = subst (λ (o : Option (Text × List Row)). IsJobIn processors o job) found is }) h
