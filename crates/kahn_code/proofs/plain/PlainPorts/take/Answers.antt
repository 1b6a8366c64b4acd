use Rattle.std.proofs.Common.{arith, refl, rules}
use Rattle.kahn_code.proofs.Queued.{read_inside, next_read, took, took_rooms}
use Rattle.kahn_code.proofs.plain.PlainPorts.take.Goals as goal

pub index_mut-requires : goal.index_mut-requires
index_mut-requires g c = let inside = read_inside c.self.view_is c.self.invariant c.args._parameter c.args.channel c.requires.reads in omega (arith, inside, c.self.inside.queues.ok.0)

pub take-requires : goal.take-requires
take-requires g c = let e = next_read c.self.view_is c.self.invariant c.args._parameter c.args.channel c.requires.reads c.index_mut.ensures.value in omega (arith, e, c.requires.bound)

pub invariant_of-self : goal.invariant_of-self
invariant_of-self g c =
    let e = c.take.ensures in
    (took c.self.view_is c.self.invariant c.args._parameter c.args.channel c.requires.reads c.index_mut.ensures.value _ _ e.names e.token e.moved e.none).queued

pub returns : goal.returns
returns g c =
    let e = c.take.ensures in
    let t = took c.self.view_is c.self.invariant c.args._parameter c.args.channel c.requires.reads c.index_mut.ensures.value _ _ e.names e.token e.moved e.none in record {
      site = search rules;
      others = t.others;
      which = refl;
      delivered = λ q. omega arith;
      token = t.token;
      moved = t.moved;
      stays = t.stays;
      dry = t.dry;
      some = t.some;
      keeps = t.keeps;
      rooms = took_rooms c.self.view_is c.self.invariant c.args._parameter c.args.channel c.requires.reads c.index_mut.ensures.value _ _ e.spare e.none;
    }
