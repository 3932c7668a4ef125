use Rattle.std.proofs.Common.{None, ◌∙◌, arith}
use Rattle.types.proofs.Meanings.{stay, still, grew_two, sides_none, sided}
use Rattle.typed.proofs.Walking.{ready_on, no_depth, not_seen, leaf_walked, single_none, single_some, pair_none, pair_none_second, pair_some, over_none, over_no_bag, over_none_second, over_some, then_none, then_some, env_none, env_some, either_no_sides, either_none, either_none_second, either_some}
use Rattle.typed.proofs.walk.+type_of.Goals as goal

pub returns-then-depth-eq0 : goal.returns-then-depth-eq0
returns-then-depth-eq0 t c = record { grew = stay None c.requires.ready.tidy tt; fit = c.requires.ready.fit; told = no_depth _ _ c.args.pos c.args.env c.args.it c.args.depth c.if-depth-eq0.true }

pub returns-in_err-step : goal.returns-in_err-step
returns-in_err-step t c = rw c.from_residual.ensures (record { grew = stay None c.requires.ready.tidy tt; fit = c.requires.ready.fit; told = not_seen _ _ c.args.pos c.args.env c.args.it c.args.depth c.in_err-step.ensures })

pub returns-in-Leaf : goal.returns-in-Leaf
returns-in-Leaf t c =
    let e = c.leaf_type.ensures in
    record { grew = e.grew; fit = e.fit; told = leaf_walked c.args.depth c.requires.ready c.requires.along c.requires.looked c.in_ok-step.ensures c.in-Leaf.leaf c.in-Leaf.is e.told }

-- one part
pub returns-in_err-x-in-Single : goal.returns-in_err-x-in-Single
returns-in_err-x-in-Single t c =
    let e = c.in_err-x-in-Single.ensures in
    rw c.from_residual-in_err-x-in-Single.ensures (record { grew = e.grew; fit = e.fit; told = single_none c.args.depth c.requires.ready c.requires.along c.requires.looked c.in_ok-step.ensures c.in-Single.op c.in-Single.is e.told })

pub single_type-requires : goal.single_type-requires
single_type-requires t c =
    let e = c.in_ok-x-in-Single.ensures in
    record { ready = ready_on c.requires.ready e.grew e.fit; here = c.in_ok-step.ensures.within.here; part = e.grew.here }

pub returns-in_ok-x-in-Single : goal.returns-in_ok-x-in-Single
returns-in_ok-x-in-Single t c =
    let e = c.in_ok-x-in-Single.ensures in
    let s = c.single_type.ensures in
    record { grew = grew_two e.grew s.grew; fit = s.fit; told = single_some c.args.depth c.requires.ready c.requires.along c.requires.looked c.in_ok-step.ensures c.in-Single.op c.in-Single.is e.grew e.told s.told }

-- two parts
pub returns-in_err-x-in-Pair : goal.returns-in_err-x-in-Pair
returns-in_err-x-in-Pair t c =
    let e = c.in_err-x-in-Pair.ensures in
    rw c.from_residual-in_err-x-in-Pair.ensures (record { grew = e.grew; fit = e.fit; told = pair_none c.args.depth c.requires.ready c.requires.along c.requires.looked c.in_ok-step.ensures c.in-Pair.op c.in-Pair.is e.told })

pub type_of-requires-in-Pair-2 : goal.type_of-requires-in-Pair-2
type_of-requires-in-Pair-2 t c =
    let e = c.in_ok-x-in-Pair.ensures in
    let a = still e.grew c.args.env c.requires.along in
    let b = still e.grew c.args.it c.requires.looked in
    let k = e.grew.here in
    (omega arith, (ready_on c.requires.ready e.grew e.fit, (omega arith, omega arith)))

pub returns-in_err-y-in-Pair : goal.returns-in_err-y-in-Pair
returns-in_err-y-in-Pair t c =
    let e = c.in_ok-x-in-Pair.ensures in
    let f = c.in_err-y-in-Pair.ensures in
    rw c.from_residual-in_err-y-in-Pair.ensures (record { grew = grew_two e.grew f.grew; fit = f.fit; told = pair_none_second c.args.depth c.requires.ready c.requires.along c.requires.looked c.in_ok-step.ensures c.in-Pair.op c.in-Pair.is e.grew e.told f.told })

pub joint_type-requires : goal.joint_type-requires
joint_type-requires t c =
    let e = c.in_ok-x-in-Pair.ensures in
    let f = c.in_ok-y-in-Pair.ensures in
    let r = c.requires.ready in
    record { listed = r.listed; same = f.grew.names ∙ e.grew.names ∙ r.same; here = c.in_ok-step.ensures.within.here; first = still f.grew c.in_ok-x-in-Pair.x e.grew.here; second = f.grew.here }

pub returns-in_ok-y-in-Pair : goal.returns-in_ok-y-in-Pair
returns-in_ok-y-in-Pair t c =
    let e = c.in_ok-x-in-Pair.ensures in
    let f = c.in_ok-y-in-Pair.ensures in
    let s = c.joint_type.ensures in
    record {
      grew = grew_two e.grew (grew_two f.grew s.grew);
      fit = f.fit;
      told = pair_some c.args.depth c.requires.ready c.requires.along c.requires.looked c.in_ok-step.ensures c.in-Pair.op c.in-Pair.is e.grew e.told f.grew f.told s.told;
    }

-- the first part for each of the second
pub returns-in_err-x-in-Over : goal.returns-in_err-x-in-Over
returns-in_err-x-in-Over t c =
    let e = c.in_err-x-in-Over.ensures in
    rw c.from_residual-in_err-x-in-Over.ensures (record { grew = e.grew; fit = e.fit; told = over_none c.args.depth c.requires.ready c.requires.along c.requires.looked c.in_ok-step.ensures c.in-Over.op c.in-Over.is e.told })

pub returns-in_err-u-in-Over : goal.returns-in_err-u-in-Over
returns-in_err-u-in-Over t c =
    let e = c.in_ok-x-in-Over.ensures in
    let l = c.in_err-u-in-Over.ensures in
    rw c.from_residual-in_err-u-in-Over.ensures (record { grew = grew_two e.grew l.grew; fit = e.fit; told = over_no_bag c.args.depth c.requires.ready c.requires.along c.requires.looked c.in_ok-step.ensures c.in-Over.op c.in-Over.is e.grew e.told l.says })

pub type_of-requires-in-Over-2 : goal.type_of-requires-in-Over-2
type_of-requires-in-Over-2 t c =
    let e = c.in_ok-x-in-Over.ensures in
    let a = still e.grew c.args.env c.requires.along in
    let b = still e.grew c.args.it c.requires.looked in
    let k = e.grew.here in
    let l = c.in_ok-u-in-Over.ensures.grew.here in
    (omega arith, (ready_on c.requires.ready e.grew e.fit, (omega arith, omega arith)))

pub returns-in_err-v-in-Over : goal.returns-in_err-v-in-Over
returns-in_err-v-in-Over t c =
    let e = c.in_ok-x-in-Over.ensures in
    let l = c.in_ok-u-in-Over.ensures in
    let f = c.in_err-v-in-Over.ensures in
    rw c.from_residual-in_err-v-in-Over.ensures (record { grew = grew_two e.grew f.grew; fit = f.fit; told = over_none_second c.args.depth c.requires.ready c.requires.along c.requires.looked c.in_ok-step.ensures c.in-Over.op c.in-Over.is e.grew e.told l.says f.told })

pub over_type-requires : goal.over_type-requires
over_type-requires t c =
    let e = c.in_ok-x-in-Over.ensures in
    let f = c.in_ok-v-in-Over.ensures in
    record { bag = still f.grew c.in_ok-x-in-Over.x e.grew.here; thing = f.grew.here }

pub returns-in_ok-v-in-Over : goal.returns-in_ok-v-in-Over
returns-in_ok-v-in-Over t c =
    let e = c.in_ok-x-in-Over.ensures in
    let l = c.in_ok-u-in-Over.ensures in
    let f = c.in_ok-v-in-Over.ensures in
    let s = c.over_type.ensures in
    record {
      grew = grew_two e.grew (grew_two f.grew s.grew);
      fit = f.fit;
      told = over_some c.args.depth c.requires.ready c.requires.along c.requires.looked c.in_ok-step.ensures c.in-Over.op c.in-Over.is e.grew e.told l.says f.grew f.told s.says;
    }

-- the first part of what the second comes to
pub returns-in_err-x-in-Then : goal.returns-in_err-x-in-Then
returns-in_err-x-in-Then t c =
    let e = c.in_err-x-in-Then.ensures in
    rw c.from_residual-in_err-x-in-Then.ensures (record { grew = e.grew; fit = e.fit; told = then_none c.args.depth c.requires.ready c.requires.along c.requires.looked c.in_ok-step.ensures c.in-Then.is e.told })

pub type_of-requires-in-Then-2 : goal.type_of-requires-in-Then-2
type_of-requires-in-Then-2 t c =
    let e = c.in_ok-x-in-Then.ensures in
    let a = still e.grew c.args.env c.requires.along in
    let b = still e.grew c.args.it c.requires.looked in
    let k = e.grew.here in
    (omega arith, (ready_on c.requires.ready e.grew e.fit, (omega arith, omega arith)))

pub returns-in_ok-x-in-Then : goal.returns-in_ok-x-in-Then
returns-in_ok-x-in-Then t c =
    let e = c.in_ok-x-in-Then.ensures in
    let f = c.type_of-in-Then-2.ensures in
    record { grew = grew_two e.grew f.grew; fit = f.fit; told = then_some c.args.depth c.requires.ready c.requires.along c.requires.looked c.in_ok-step.ensures c.in-Then.is e.grew e.told f.told }

-- the first part with what the second comes to going along
pub returns-in_err-x-in-WithEnv : goal.returns-in_err-x-in-WithEnv
returns-in_err-x-in-WithEnv t c =
    let e = c.in_err-x-in-WithEnv.ensures in
    rw c.from_residual-in_err-x-in-WithEnv.ensures (record { grew = e.grew; fit = e.fit; told = env_none c.args.depth c.requires.ready c.requires.along c.requires.looked c.in_ok-step.ensures c.in-WithEnv.is e.told })

pub type_of-requires-in-WithEnv-2 : goal.type_of-requires-in-WithEnv-2
type_of-requires-in-WithEnv-2 t c =
    let e = c.in_ok-x-in-WithEnv.ensures in
    let a = still e.grew c.args.env c.requires.along in
    let b = still e.grew c.args.it c.requires.looked in
    let k = e.grew.here in
    (omega arith, (ready_on c.requires.ready e.grew e.fit, (omega arith, omega arith)))

pub returns-in_ok-x-in-WithEnv : goal.returns-in_ok-x-in-WithEnv
returns-in_ok-x-in-WithEnv t c =
    let e = c.in_ok-x-in-WithEnv.ensures in
    let f = c.type_of-in-WithEnv-2.ensures in
    record { grew = grew_two e.grew f.grew; fit = f.fit; told = env_some c.args.depth c.requires.ready c.requires.along c.requires.looked c.in_ok-step.ensures c.in-WithEnv.is e.grew e.told f.told }

-- the first part of a left, the second of a right
pub returns-in_err-sides-in-Either : goal.returns-in_err-sides-in-Either
returns-in_err-sides-in-Either t c =
    let r = c.requires.ready in
    rw c.from_residual-in_err-sides-in-Either.ensures (record { grew = stay None r.tidy tt; fit = r.fit; told = either_no_sides c.args.depth c.requires.ready c.requires.along c.requires.looked c.in_ok-step.ensures c.in-Either.is (sides_none c.args.table.now r.tidy c.args.it c.requires.looked c.in_err-sides-in-Either.ensures _) })

pub type_of-requires-in-Either : goal.type_of-requires-in-Either
type_of-requires-in-Either t c =
    let d = sided c.args.table.now c.requires.ready.tidy c.args.it c.requires.looked c.in_ok-sides-in-Either.sides c.in_ok-sides-in-Either.ensures in
    (omega arith, (c.requires.ready, (omega (arith, c.requires.along, d.left, d.right), omega (arith, c.requires.along, d.left, d.right))))

pub returns-in_err-x-in-Either : goal.returns-in_err-x-in-Either
returns-in_err-x-in-Either t c =
    let d = sided c.args.table.now c.requires.ready.tidy c.args.it c.requires.looked c.in_ok-sides-in-Either.sides c.in_ok-sides-in-Either.ensures in
    let e = c.in_err-x-in-Either.ensures in
    rw c.from_residual-in_err-x-in-Either.ensures (record { grew = e.grew; fit = e.fit; told = either_none c.args.depth c.requires.ready c.requires.along c.requires.looked c.in_ok-step.ensures c.in-Either.is d e.told })

pub type_of-requires-in-Either-2 : goal.type_of-requires-in-Either-2
type_of-requires-in-Either-2 t c =
    let d = sided c.args.table.now c.requires.ready.tidy c.args.it c.requires.looked c.in_ok-sides-in-Either.sides c.in_ok-sides-in-Either.ensures in
    let e = c.in_ok-x-in-Either.ensures in
    let a = still e.grew c.args.env c.requires.along in
    let k = still e.grew c.in_ok-sides-in-Either.sides.left d.left in
    let l = still e.grew c.in_ok-sides-in-Either.sides.right d.right in
    (omega arith, (ready_on c.requires.ready e.grew e.fit, (omega arith, omega arith)))

pub returns-in_err-y-in-Either : goal.returns-in_err-y-in-Either
returns-in_err-y-in-Either t c =
    let d = sided c.args.table.now c.requires.ready.tidy c.args.it c.requires.looked c.in_ok-sides-in-Either.sides c.in_ok-sides-in-Either.ensures in
    let e = c.in_ok-x-in-Either.ensures in
    let f = c.in_err-y-in-Either.ensures in
    rw c.from_residual-in_err-y-in-Either.ensures (record { grew = grew_two e.grew f.grew; fit = f.fit; told = either_none_second c.args.depth c.requires.ready c.requires.along c.requires.looked c.in_ok-step.ensures c.in-Either.is d e.grew e.told f.told })

pub same_type-requires : goal.same_type-requires
same_type-requires t c =
    let e = c.in_ok-x-in-Either.ensures in
    let f = c.in_ok-y-in-Either.ensures in
    record { first = still f.grew c.in_ok-x-in-Either.x e.grew.here; second = f.grew.here }

pub returns-in_ok-y-in-Either : goal.returns-in_ok-y-in-Either
returns-in_ok-y-in-Either t c =
    let d = sided c.args.table.now c.requires.ready.tidy c.args.it c.requires.looked c.in_ok-sides-in-Either.sides c.in_ok-sides-in-Either.ensures in
    let e = c.in_ok-x-in-Either.ensures in
    let f = c.in_ok-y-in-Either.ensures in
    let s = c.same_type.ensures in
    record {
      grew = grew_two e.grew (grew_two f.grew s.grew);
      fit = f.fit;
      told = either_some c.args.depth c.requires.ready c.requires.along c.requires.looked c.in_ok-step.ensures c.in-Either.is d e.grew e.told f.grew f.told s.says;
    }
