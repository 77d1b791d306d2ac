-- `speltfeather::spelt_search_list` meets its contract.
-- Assumes nothing.
use Prim.Native.Nat.{◌*◌, ◌^◌}
use native.Mathlib.Omega.{arith}
use mathlib.Core.Path.{◌≡◌}
use Rattle.nr.specs.Answer.{number, place_of}
use Rattle.nr.specs.Searching.{found, searching}
use Rattle.nr.proofs.Searching.{searching-small}
use Rattle.dci.specs.Judged.{counted}
use Rattle.search.specs.Tries.{named}
use Rattle.speltfeather.proofs.Packing.{found-returned, found-small, found-placeless}
use Rattle.speltfeather.proofs.spelt_search_list.Goals as goal
use Rattle.speltfeather.proofs.spelt_search_list.Goals.{After-pack_counted, In-Ok}

-- what was found, and its noise count from bit 24 on
found-is : (c : In-Ok) → let a = c.args in let f = c.in-Ok.found in
    found 0 f.candidate f.stretch.now c.search.new.out f.noise ≡ searching a.n_id a.region.now a.list.now a.out.now
unfolding named
found-is c = c.in-Ok.ensures.is

count-is : (c : After-pack_counted) → c.pack_counted.result ≡ 2 ^ 24 * c.in-Ok.found.noise
unfolding number place_of counted
count-is c = omega (arith, c.pack_counted.ensures)

pub returns-in-Ok : goal.returns-in-Ok
returns-in-Ok c =
    let g = goal.at.returns-in-Ok c in
    found-returned (found-is g.In-Ok) _ (omega (arith, count-is g.After-pack_counted))

pub returns-in-Err : goal.returns-in-Err
unfolding named
returns-in-Err c =
    let none = found-placeless _ _ _ _ c.in-Err.refusal c.in-Err.ensures.is in
    found-returned c.in-Err.ensures.is _ (omega (arith, c.pack.ensures, none))

pub overflow_mul-result : goal.overflow_mul-result
overflow_mul-result c = omega (arith, found-small (found-is (goal.at.overflow_mul-result c).In-Ok) (searching-small _ _ _ _))

pub overflow_add-result : goal.overflow_add-result
overflow_add-result c =
    let g = goal.at.overflow_add-result c in
    omega (arith, count-is g.After-pack_counted, found-small (found-is g.In-Ok) (searching-small _ _ _ _))

pub pack_counted-requires : goal.pack_counted-requires
unfolding place_of
pack_counted-requires c = omega arith

pub pack-requires : goal.pack-requires
unfolding named
pack-requires c = omega (arith, found-placeless _ _ _ _ c.in-Err.refusal c.in-Err.ensures.is)
