-- For this crate alone. ReceivedBlocks: operations of a rank, of which one alone sets a slot, and sums of blocks. RoundsMeaning:
-- an exchange in rounds. PiecesMeaning and PanelsMeaning: what the two plans leave. WorkedTransfers: the definitions computed.
mod ReceivedBlocks
mod RoundsMeaning
mod PiecesMeaning
mod PanelsMeaning
mod WorkedTransfers
