use Rattle.std.proofs.Common.{of_calls}
use Rattle.cb_selections.proofs.FunctionResults.{made_as}
use Rattle.cb_selections.proofs.functions.results.Goals as goal

pub returns-in-Constant-clause-made : goal.returns-in-Constant-clause-made
returns-in-Constant-clause-made g c = rw c.in-Constant.is (made_as (λ v. v.items) _ _ (λ row value made is. search of_calls) c.args.rows.now c.args.values.now c.each.result c.each.ensures.made)

pub returns-in-Sum-clause-made : goal.returns-in-Sum-clause-made
returns-in-Sum-clause-made g c = rw c.in-Sum.is (made_as (λ v. v.items) _ _ (λ row value made is. search of_calls) c.args.rows.now c.args.values.now c.each-in-Sum.result c.each-in-Sum.ensures.made)

pub returns-in-LeftProduct-clause-made : goal.returns-in-LeftProduct-clause-made
returns-in-LeftProduct-clause-made g c = rw c.in-LeftProduct.is (made_as (λ v. v.items) _ _ (λ row value made is. search of_calls) c.args.rows.now c.args.values.now c.each-in-LeftProduct.result c.each-in-LeftProduct.ensures.made)

pub returns-in-RightProduct-clause-made : goal.returns-in-RightProduct-clause-made
returns-in-RightProduct-clause-made g c = rw c.in-RightProduct.is (made_as (λ v. v.items) _ _ (λ row value made is. search of_calls) c.args.rows.now c.args.values.now c.each-in-RightProduct.result c.each-in-RightProduct.ensures.made)

pub returns-in-Row-clause-made : goal.returns-in-Row-clause-made
returns-in-Row-clause-made g c = rw c.in-Row.is (made_as (λ v. v.items) _ _ (λ row value made is. search of_calls) c.args.rows.now c.args.values.now c.each-in-Row.result c.each-in-Row.ensures.made)

pub returns-in-Column-clause-made : goal.returns-in-Column-clause-made
returns-in-Column-clause-made g c = rw c.in-Column.is (made_as (λ v. v.items) _ _ (λ row value made is. search of_calls) c.args.rows.now c.args.values.now c.each-in-Column.result c.each-in-Column.ensures.made)
