-- `stores::put_piece` meets its contract.
use Rattle.atoms.proofs.stores.PieceStores.{put_one, put_two, put_three}
use Rattle.atoms.proofs.stores.put_piece.Goals as goal

pub returns-then-p-le1 : goal.returns-then-p-le1
returns-then-p-le1 c = put_one c.args.out.now c.args.at
    c.args.k c.args.p.size
    c.args.p.first c.args.p.second
    c.args.p.third c.store.new.out c.if-p-le1.true
    c.store.ensures

pub returns-then-p-le2 : goal.returns-then-p-le2
returns-then-p-le2 c = put_two c.args.out.now
    c.args.at
    c.args.k
    c.args.p.size
    c.args.p.first
    c.args.p.second
    c.args.p.third
    c.store.new.out c.store-2.new.out
    c.if-p-le1.false c.if-p-le2.true
    c.store.ensures c.store-2.ensures

pub returns : goal.returns
returns c = let args = c.args in
    put_three args.out.now args.at args.k args.p.size args.p.first args.p.second args.p.third
    c.store.new.out
    c.store-2.new.out c.store-3.new.out
    c.if-p-le2.false
    c.store.ensures
    c.store-2.ensures c.store-3.ensures
