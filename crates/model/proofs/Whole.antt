-- The laws over whole runs.
use Rattle.std.proofs.Common.{◌≡◌, ℕ, List, [], ◌∷◌, Some, None, Option, sym, refl, ap, subst}
use Rattle.std.specs.List.{AllByRecursion}
use Rattle.volume.specs.Meanings.{Meaning, block_of}
use Rattle.model.specs.declared.pipe.Pipe.{Pipe}
use Rattle.model.specs.declared.pipe.Area.{Area}
use Rattle.model.specs.Answers.{Answer}
use Rattle.model.specs.Worlds.{World}
use Rattle.model.specs.Steps.{Request, step}
use Rattle.model.specs.Runs.{History, Making, Run, start, then}
use Rattle.model.specs.Effects.{Effect, effects}
use Rattle.volume.proofs.Overwritten.{length-with_part, part_new, with_part_out}
use Rattle.model.specs.Laws.{Passes, PartsKept, LawsHold, EveryList, Kept, Does}
use Rattle.model.proofs.Changes.{Change, Stepped, changes}
use Rattle.model.proofs.Locks.{Held, Counted, held, fresh, keep_held, law_of_locks}
use Rattle.model.proofs.PipeLaw.{Piped, OrderlyIn, keep_piped}
use Rattle.model.proofs.BlockLaw.{Laid, CoveredArea, keep_laid}

-- what holds after every request
record KeptUp (m₀ : Meaning) (es : List Effect) (w : World) : Type 0 where
  held : Held es w
  piped : Piped es w
  laid : Laid m₀ es w

at_making : (w : World) → Making w → KeptUp w.volume [] w
at_making w m = record {
  held = λ n. subst (λ t. Counted 0 0 (held n t)) (sym m.semaphores) (fresh n);
  piped = record { apart = m.volume.apart; orderly = subst (λ o. OrderlyIn (Passes [] (block_of w.volume)) w.volume.count o w.pipes) (sym m.area) m.pipes };
  laid = record { place = refl; area = subst (CoveredArea w.volume.place []) (sym m.area) tt; blocks = λ q n. refl };
}

keep : (m₀ : Meaning) (es : List Effect) (e : Effect) (w v : World) → Change w e v → KeptUp m₀ es w → KeptUp m₀ (e ∷ es) v
keep m₀ es e w v s i = record {
  held = keep_held es e w v s i.held;
  piped = keep_piped es e w v s i.piped;
  laid = keep_laid m₀ es e w v s i.piped i.laid;
}

along : {w₀ : World} {h : History} {w : World} → Making w₀ → Run w₀ h w → KeptUp w₀.volume (effects h) w
along {w₀} m start = at_making w₀ m
along m (then {h = h} {v = v} {w = w} {r = q} r e) = keep _ (effects h) _ v w (subst (Stepped v q) e (changes v q)) (along m r)

law_of_pipes : (P : Pipe → Type 0) (count : ℕ) (o : Option Area) (ps : List Pipe) → OrderlyIn P count o ps → AllByRecursion P ps
law_of_pipes P count None ps e = subst (AllByRecursion P) (sym e) tt
law_of_pipes P count (Some a) ps s = s.passes

pub laws_hold : LawsHold
laws_hold w₀ h w m r =
    let i = along m r in
    record {
      locks = law_of_locks h w i.held;
      pipes = law_of_pipes _ w.volume.count w.area w.pipes i.piped.orderly;
      blocks = i.laid.blocks;
    }

pub kept : (v : World) (r : Request) (a : Answer) (w : World) → step v r ≡ (a, w) → Kept v r a w
kept v r a w e w₀ h m run = let on = then run e in (on, laws_hold w₀ _ w m on)

pub does : (v : World) (r : Request) (a : Answer) (w : World) → step v r ≡ (a, w) → Does v r a w
does v r a w e = record { defined = e; laws = kept v r a w e }

pub every_list : EveryList
every_list w₀ m [] = ([], w₀, refl, start, laws_hold w₀ [] w₀ m start)
every_list w₀ m (q ∷ qs) =
    let r = every_list w₀ m qs in
    let s = step r.1 q in
    let t : Run w₀ (record { request = q; answer = s.0 } ∷ r.0) s.1 = then r.3 refl in
    (record { request = q; answer = s.0 } ∷ r.0, s.1, ap (λ x. q ∷ x) r.2, t, laws_hold w₀ _ _ m t)

pub parts_kept : PartsKept
parts_kept bytes first new fits = record {
  same_length = length-with_part bytes first new fits;
  inside = part_new bytes first new fits;
  outside = with_part_out bytes first new fits;
}
