use Rattle.std.proofs.Common.{◌+◌, length, vec_items, sym, ap, subst, arith}
use Rattle.std.proofs.lemmas.List.FromFn.{length-map-range_with_len}
use Rattle.std.proofs.lemmas.Bool.Decides.{nat_tests}
use Rattle.pile.proofs.Spelling.{PlacesIn, places_more}
use Rattle.pile.proofs.runs.runs_of.Goals as goal
use Rattle.pile.proofs.runs.runs_of.Goals.{in-Some+in_ok-put_place, in_default}

pub put_place-requires : goal.put_place-requires
put_place-requires g c =
    omega (arith, ap length c.loop-n.invariant.0, length-map-range_with_len (g.P.Placement.layout c.args.placement.now).place 0 c.loop-n.n)

pub loop-n-preserved : goal.loop-n-preserved
loop-n-preserved g c =
    let layout = g.P.Placement.layout c.args.placement.now in
    elim c.match-place.branch [
      | in-Some+in_ok-put_place w ↦
          subst (λ v. PlacesIn (vec_items v) layout (c.loop-n.n + 1)) (sym w.runs-is)
          (places_more (vec_items c.loop-n.runs) (vec_items w.put_place.new.runs) layout c.loop-n.n w.in-Some.place (omega arith) w.in-Some.ensures c.loop-n.invariant w.in_ok-put_place.ensures)
      | in_default w ↦ absurd (grind (arith, nat_tests, w.in_default.ensures))
    ]
