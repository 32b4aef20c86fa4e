-- `put::Output::string_byte` meets its contract.
use Rattle.printer.proofs.put.Appending.{appends_as, appends_join}
use Rattle.printer.proofs.put.Pieces.{byte_lettered, byte_coded, byte_raw}
use Rattle.printer.proofs.put.Output.string_byte.Goals as goal

pub returns-in-Some : goal.returns-in-Some
returns-in-Some c =
    appends_as (byte_lettered c.args.b c.in-Some.short c.in-Some.ensures) (appends_join c.byte.ensures.appends c.byte-in-Some.ensures.appends)

pub returns-in-None : goal.returns-in-None
returns-in-None c =
    appends_as (byte_coded c.args.b c.in-None.ensures _ c.is_coded.ensures c.if-is_coded.true _ _ c.hex.ensures c.hex-in-None.ensures)
    c.bytes.ensures

pub returns-in-None-2 : goal.returns-in-None-2
returns-in-None-2 c = appends_as (byte_raw c.args.b c.in-None-2.ensures _ c.is_coded.ensures c.if-is_coded.false) c.byte-in-None-2.ensures.appends
