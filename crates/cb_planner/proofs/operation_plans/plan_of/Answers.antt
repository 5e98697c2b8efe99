use Rattle.cb_operations.specs.declared.operations.Operation.TheVariants.{Multiply, MultiplyMasked, MultiplyVector, Transpose, RowSums, ColumnSums, Add, Times, Prune}
use Rattle.cb_planner.proofs.Computed.{of_made, transpose_computed, column_sums_computed, row_sums_computed, rest_computed, product_computed, sum_computed, times_computed, masked_computed}
use Rattle.cb_planner.proofs.operation_plans.plan_of.Goals as goal

pub returns-in-Multiply : goal.returns-in-Multiply
returns-in-Multiply c =
    of_made c.args.operation Multiply c.args.grid.now.side c.args.shapes.now c.summa.result c.planned.result c.in-Multiply.is c.requires.count c.requires.agree c.planned.ensures c.summa.ensures.ranks c.summa.ensures.runnable c.summa.ensures.slot c.summa.ensures.starts c.summa.ensures.product
    (λ count agree p ranks runnable slot. product_computed c.args.grid.now.side p ranks runnable slot c.args.shapes.now c.index-shapes-0.result c.index-shapes-1.result count c.index-shapes-0.is c.index-shapes-1.is)

pub returns-in-MultiplyMasked : goal.returns-in-MultiplyMasked
returns-in-MultiplyMasked c =
    of_made c.args.operation MultiplyMasked c.args.grid.now.side c.args.shapes.now c.summa_masked.result c.planned-in-MultiplyMasked.result c.in-MultiplyMasked.is c.requires.count c.requires.agree c.planned-in-MultiplyMasked.ensures c.summa_masked.ensures.ranks c.summa_masked.ensures.runnable c.summa_masked.ensures.slot c.summa_masked.ensures.starts c.summa_masked.ensures.product
    (λ count agree p ranks runnable slot. masked_computed c.args.grid.now.side p ranks runnable slot c.args.shapes.now c.index-shapes-0-in-MultiplyMasked.result c.index-shapes-1-in-MultiplyMasked.result count c.index-shapes-0-in-MultiplyMasked.is c.index-shapes-1-in-MultiplyMasked.is agree)

pub returns-in-MultiplyVector : goal.returns-in-MultiplyVector
returns-in-MultiplyVector c =
    of_made c.args.operation MultiplyVector c.args.grid.now.side c.args.shapes.now c.summa-in-MultiplyVector.result c.planned-in-MultiplyVector.result c.in-MultiplyVector.is c.requires.count c.requires.agree c.planned-in-MultiplyVector.ensures c.summa-in-MultiplyVector.ensures.ranks c.summa-in-MultiplyVector.ensures.runnable c.summa-in-MultiplyVector.ensures.slot c.summa-in-MultiplyVector.ensures.starts c.summa-in-MultiplyVector.ensures.product
    (λ count agree p ranks runnable slot. product_computed c.args.grid.now.side p ranks runnable slot c.args.shapes.now c.index-shapes-0-in-MultiplyVector.result c.index-shapes-1-in-MultiplyVector.result count c.index-shapes-0-in-MultiplyVector.is c.index-shapes-1-in-MultiplyVector.is)

pub returns-in-Transpose : goal.returns-in-Transpose
returns-in-Transpose c =
    of_made c.args.operation Transpose c.args.grid.now.side c.args.shapes.now c.grid_transpose.result c.planned-in-Transpose.result c.in-Transpose.is c.requires.count c.requires.agree c.planned-in-Transpose.ensures c.grid_transpose.ensures.ranks c.grid_transpose.ensures.runnable c.grid_transpose.ensures.slot c.grid_transpose.ensures.starts c.grid_transpose.ensures.transpose
    (λ count agree p ranks runnable slot. transpose_computed c.args.grid.now.side p ranks runnable slot c.args.shapes.now c.index-shapes-0-in-Transpose.result count c.index-shapes-0-in-Transpose.is)

pub returns-in-RowSums : goal.returns-in-RowSums
returns-in-RowSums c =
    of_made c.args.operation RowSums c.args.grid.now.side c.args.shapes.now c.grid_row_sums.result c.planned-in-RowSums.result c.in-RowSums.is c.requires.count c.requires.agree c.planned-in-RowSums.ensures c.grid_row_sums.ensures.ranks c.grid_row_sums.ensures.runnable c.grid_row_sums.ensures.slot c.grid_row_sums.ensures.starts c.grid_row_sums.ensures.sums
    (λ count agree p ranks runnable slot. row_sums_computed c.args.grid.now.side p ranks runnable slot c.args.shapes.now c.index-shapes-0-in-RowSums.result count c.index-shapes-0-in-RowSums.is)

pub returns-in-ColumnSums : goal.returns-in-ColumnSums
returns-in-ColumnSums c =
    of_made c.args.operation ColumnSums c.args.grid.now.side c.args.shapes.now c.grid_column_sums.result c.planned-in-ColumnSums.result c.in-ColumnSums.is c.requires.count c.requires.agree c.planned-in-ColumnSums.ensures c.grid_column_sums.ensures.ranks c.grid_column_sums.ensures.runnable c.grid_column_sums.ensures.slot c.grid_column_sums.ensures.starts c.grid_column_sums.ensures.sums
    (λ count agree p ranks runnable slot. column_sums_computed c.args.grid.now.side p ranks runnable slot c.args.shapes.now c.index-shapes-0-in-ColumnSums.result count c.index-shapes-0-in-ColumnSums.is)

pub returns-in-Add : goal.returns-in-Add
returns-in-Add c =
    of_made c.args.operation Add c.args.grid.now.side c.args.shapes.now c.grid_add.result c.planned-in-Add.result c.in-Add.is c.requires.count c.requires.agree c.planned-in-Add.ensures c.grid_add.ensures.ranks c.grid_add.ensures.runnable c.grid_add.ensures.slot c.grid_add.ensures.starts c.grid_add.ensures.sum
    (λ count agree p ranks runnable slot. sum_computed c.args.grid.now.side p ranks runnable slot c.args.shapes.now c.index-shapes-0-in-Add.result count c.index-shapes-0-in-Add.is agree)

pub returns-in-Times : goal.returns-in-Times
returns-in-Times c =
    of_made c.args.operation Times c.args.grid.now.side c.args.shapes.now c.grid_times.result c.planned-in-Times.result c.in-Times.is c.requires.count c.requires.agree c.planned-in-Times.ensures c.grid_times.ensures.ranks c.grid_times.ensures.runnable c.grid_times.ensures.slot c.grid_times.ensures.starts c.grid_times.ensures.product
    (λ count agree p ranks runnable slot. times_computed c.args.grid.now.side p ranks runnable slot c.args.shapes.now c.index-shapes-0-in-Times.result count c.index-shapes-0-in-Times.is agree)

pub returns-in-Prune : goal.returns-in-Prune
returns-in-Prune c =
    of_made c.args.operation (Prune c.in-Prune.test) c.args.grid.now.side c.args.shapes.now c.grid_prune.result c.planned-in-Prune.result c.in-Prune.is c.requires.count c.requires.agree c.planned-in-Prune.ensures c.grid_prune.ensures.ranks c.grid_prune.ensures.runnable c.grid_prune.ensures.slot c.grid_prune.ensures.starts c.grid_prune.ensures.rest
    (λ count agree p ranks runnable slot starts. rest_computed c.args.grid.now.side p ranks runnable slot c.args.shapes.now c.index-shapes-0-in-Prune.result count c.index-shapes-0-in-Prune.is starts c.in-Prune.test)
