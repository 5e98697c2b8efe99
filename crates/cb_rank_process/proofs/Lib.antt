-- RunnablePlans: a plan that computes an operation can be run (`can_run`).
pub mod RunnablePlans
-- KeptParts: what a process keeps of a plan that the processes of its grid did in a joint run (`share_of_process`).
pub mod KeptParts
-- BroughtParts: what plans bring each rank: its block of an operation's answer (`answer_brought`), its panel of a matrix
-- (`panels_brought`), its block of the sum of pieces (`pieces_brought`).
pub mod BroughtParts
-- FirstRegisters: the first registers, one after the other (`more_shapes`, `more_matrices`, `more_given_up`).
pub mod FirstRegisters
-- OperandSlots: the slots with which a rank begins, which are its row of those of all ranks (`row_of_operands`,
-- `row_of_blocks`).
pub mod OperandSlots
-- FittingParts: a rank that has its parts of the operands can start (`can_start`).
pub mod FittingParts
-- TextOrder: from texts to a text: the sum of pieces is the matrix of all their entries (`sum_of_collected`), and so of a text
-- (`sum_of_text`); the entries of the panels of a matrix, in order, are its entries (`panels_in_order`).
pub mod TextOrder
-- TextParts: a head and the lines of the parts of a matrix make its text (`head_begins`); what a process begins that reads a
-- piece (`begins_reading`).
pub mod TextParts
-- BegunOperations: the operation that a process begins (`operates_on`), or that it gathers columns (`gathers`); what these bring
-- each rank (`brings_answer`, `brings_panels`); and why they aren't begun (`lacks`, `never_started`).
pub mod BegunOperations
-- VertexParts: the lines of a column, rank by rank (`vertex_parts`).
pub mod VertexParts
-- SearchedBlocks: the blocks of a search (`begins_search`, `makes_round`), and of a matrix of bits (`weighs_bits`); and the lines of a
-- process (`writes_part`).
pub mod SearchedBlocks
