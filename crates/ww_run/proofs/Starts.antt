-- Workers that are started one after another, and what comes back of them.
use Rattle.std.proofs.Common.{◌≡◌, ℕ, zero, suc, ◌+◌, ◌<◌, ◌≤◌, Bool, true, false, List, [], ◌∷◌, ◌++◌, length, map, get_or, refl, sym, ap, subst, ◌∙◌, arith, length-append, zero-add, add-zero, append_assoc}
use Rattle.std.proofs.lemmas.Bool.{false≢true}
use Rattle.std.proofs.lemmas.List.{append-nil, length-map}
use Rattle.std.specs.Global.{Vec}
use Rattle.std.specs.declared.thread.PromisedHandle.{PromisedHandle}
use Rattle.ww_script_parts.specs.declared.acts.Act.{Act}
use Rattle.ww_script.specs.Acts.{Action, deed_of}
use Rattle.ww_lock.specs.Holding.{Holding, Setting}
use Rattle.ww_run.specs.declared.worker.Work.{Work}
use Rattle.ww_run.specs.declared.worker.WorkOf.{WorkOf}
use Rattle.ww_run.specs.Workers.{IsReadyToRun, IsWork, AreWorks}
use Rattle.ww_run.proofs.Acts.{one_later}

-- each script has its pass, of which the first is this caller's
abbrev pub AreReadyFrom : Setting → ℕ → List (Vec Act) → List Holding → Type 0
AreReadyFrom w number [] [] = Unit {0}
AreReadyFrom w number (t ∷ ts) (s ∷ ss) = IsReadyToRun w number (map deed_of t.items) s × AreReadyFrom w (number + 1) ts ss
AreReadyFrom w number _ _ = ⊥

-- what a worker returns was promised of this script and this caller
pub record IsPromised (w : Setting) (number : ℕ) (acts : Vec Act) (p : WorkOf) : Type 0 where
  pub world_is : p.world.now ≡ w
  pub caller_is : p.caller ≡ number
  pub acts_are : p.acts.value ≡ acts

-- of each script, of which the first is this caller's
abbrev pub ArePromised : Setting → ℕ → List (Vec Act) → List (PromisedHandle Work WorkOf) → Type 0
ArePromised w number [] [] = Unit {0}
ArePromised w number (t ∷ ts) (h ∷ hs) = IsPromised w number t h.promise × ArePromised w (number + 1) ts hs
ArePromised w number _ _ = ⊥

-- How far the starting has come: the scripts that are done, a worker for each if none was refused, and the rest.
pub record IsStarting (w : Setting) (all rest : List (Vec Act)) (passes : List Holding)
    (workers : List (PromisedHandle Work WorkOf)) (room : ℕ) (is_short : Bool) : Type 0 where
  pub done : List (Vec Act)
  pub parts : all ≡ done ++ rest
  pub ready : AreReadyFrom w (length done) rest passes
  pub fits : length workers + length passes ≤ room
  pub promised : is_short ≡ false → ArePromised w 0 done workers

pub ready_from : (w : Setting) (number : ℕ) (scripts : List (Vec Act)) (passes : List Holding)
    → length passes ≡ length (map (λ (t : Vec Act). map deed_of t.items) scripts)
    → ((i : ℕ) (t : List Action) (d : Holding) → i < length (map (λ (s : Vec Act). map deed_of s.items) scripts)
    → IsReadyToRun w (number + i) (get_or (map (λ (s : Vec Act). map deed_of s.items) scripts) i t) (get_or passes i d))
    → AreReadyFrom w number scripts passes
ready_from w number [] [] count each = tt
ready_from w number [] (s ∷ passes) count each = absurd (omega (arith, count))
ready_from w number (t ∷ scripts) [] count each = absurd (omega (arith, count))
ready_from w number (t ∷ scripts) (s ∷ passes) count each = (
  subst (λ (k : ℕ). IsReadyToRun w k (map deed_of t.items) s) (add-zero number) (each 0 (map deed_of t.items) s (omega arith)),
  ready_from w (number + 1) scripts passes (omega (arith, count)) (λ i u d lt.
      subst (λ (k : ℕ). IsReadyToRun w k (get_or (map (λ (x : Vec Act). map deed_of x.items) scripts) i u) (get_or passes i d))
      (one_later number i) (each (suc i) u d (omega (arith, lt)))),
)

pub starting : (w : Setting) (all rest : List (Vec Act)) (passes : List Holding) (workers : List (PromisedHandle Work WorkOf)) (room : ℕ)
    → rest ≡ all → workers ≡ [] → AreReadyFrom w 0 rest passes → length passes ≤ room
    → IsStarting w all rest passes workers room false
starting w all rest passes workers room is none ready le = rw none (record {
  done = [];
  parts = sym is;
  ready = ready;
  fits = omega (arith, le);
  promised = λ e. tt;
})

-- there are as many scripts to come as passes
same_rest : (w : Setting) (number : ℕ) (rest : List (Vec Act)) (passes : List Holding) → AreReadyFrom w number rest passes
    → length rest ≡ length passes
same_rest w number [] [] h = refl
same_rest w number [] (s ∷ passes) h = absurd h
same_rest w number (t ∷ rest) [] h = absurd h
same_rest w number (t ∷ rest) (s ∷ passes) h = ap suc (same_rest w (number + 1) rest passes h.1)

-- the next pass and the next script are ready for one another
ready_next : (w : Setting) (number : ℕ) (rest now : List (Vec Act)) (passes later : List Holding) (pass : Holding) (acts : Vec Act)
    → AreReadyFrom w number rest passes → passes ≡ pass ∷ later → rest ≡ acts ∷ now
    → IsReadyToRun w number (map deed_of acts.items) pass × AreReadyFrom w (number + 1) now later
ready_next w number rest now passes later pass acts h first next =
    subst (λ (ss : List Holding). AreReadyFrom w number (acts ∷ now) ss) first
    (subst (λ (ts : List (Vec Act)). AreReadyFrom w number ts passes) next h)

promised_more : (w : Setting) (number : ℕ) (done : List (Vec Act)) (workers : List (PromisedHandle Work WorkOf)) (acts : Vec Act)
    (worker : PromisedHandle Work WorkOf)
    → ArePromised w number done workers → IsPromised w (number + length done) acts worker.promise
    → ArePromised w number (done ++ acts ∷ []) (workers ++ worker ∷ [])
promised_more w number [] [] acts worker h p = (subst (λ (k : ℕ). IsPromised w k acts worker.promise) (add-zero number) p, tt)
promised_more w number [] (x ∷ workers) acts worker h p = absurd h
promised_more w number (t ∷ done) [] acts worker h p = absurd h
promised_more w number (t ∷ done) (x ∷ workers) acts worker h p = (
  h.0,
  promised_more w (number + 1) done workers acts worker h.1
      (subst (λ (k : ℕ). IsPromised w k acts worker.promise) (one_later number (length done)) p),
)

-- one worker more
pub started : (w : Setting) (all rest now : List (Vec Act)) (passes later : List Holding) (pass : Holding) (acts : Vec Act)
    (workers more : List (PromisedHandle Work WorkOf)) (worker : PromisedHandle Work WorkOf) (room : ℕ) (is_short : Bool)
    → IsStarting w all rest passes workers room is_short → passes ≡ pass ∷ later → rest ≡ acts ∷ now
    → more ≡ workers ++ worker ∷ [] → IsPromised w pass.caller acts worker.promise
    → IsStarting w all now later more room is_short
started w all rest now passes later pass acts workers more worker room is_short h first next grown promised =
    let ready = ready_next w (length h.done) rest now passes later pass acts h.ready first next in
    let longer : length (h.done ++ acts ∷ []) ≡ length h.done + 1 = length-append h.done (acts ∷ []) in record {
      done = h.done ++ acts ∷ [];
      parts = h.parts ∙ ap (λ ts. h.done ++ ts) next ∙ sym (append_assoc h.done (acts ∷ []) now);
      ready = subst (λ (k : ℕ). AreReadyFrom w k now later) (sym longer) ready.1;
      fits = omega (arith, h.fits, ap length first, ap length grown, length-append workers (worker ∷ []));
      promised = λ e. rw grown (promised_more w 0 h.done workers acts worker (h.promised e)
          (subst (λ (k : ℕ). IsPromised w k acts worker.promise)
          (ready.0.same_caller ∙ sym (zero-add (length h.done))) promised));
    }

-- a worker that couldn't be started
pub not_started : (w : Setting) (all rest now : List (Vec Act)) (passes later : List Holding) (pass : Holding) (acts : Vec Act)
    (workers : List (PromisedHandle Work WorkOf)) (room : ℕ) (is_short : Bool)
    → IsStarting w all rest passes workers room is_short → passes ≡ pass ∷ later → rest ≡ acts ∷ now
    → IsStarting w all now later workers room true
not_started w all rest now passes later pass acts workers room is_short h first next =
    let ready = ready_next w (length h.done) rest now passes later pass acts h.ready first next in
    let longer : length (h.done ++ acts ∷ []) ≡ length h.done + 1 = length-append h.done (acts ∷ []) in record {
      done = h.done ++ acts ∷ [];
      parts = h.parts ∙ ap (λ ts. h.done ++ ts) next ∙ sym (append_assoc h.done (acts ∷ []) now);
      ready = subst (λ (k : ℕ). AreReadyFrom w k now later) (sym longer) ready.1;
      fits = omega (arith, h.fits, ap length first);
      promised = λ e. absurd (false≢true (sym e));
    }

promised_at : (w : Setting) (number : ℕ) (scripts : List (Vec Act)) (workers : List (PromisedHandle Work WorkOf)) (i : ℕ)
    (t : List Action) (d : PromisedHandle Work WorkOf) (work : Work)
    → ArePromised w number scripts workers → i < length scripts
    → IsWork d.promise.world.now d.promise.caller (map deed_of d.promise.acts.value.items) work
    → d ≡ get_or workers i d
    → IsWork w (number + i) (get_or (map (λ (s : Vec Act). map deed_of s.items) scripts) i t) work
promised_at w number [] workers i t d work h lt kept is = absurd (omega (arith, lt))
promised_at w number (s ∷ scripts) [] i t d work h lt kept is = absurd h
promised_at w number (s ∷ scripts) (x ∷ workers) zero t d work h lt kept is =
    let p : IsPromised w number s d.promise = subst (λ (y : PromisedHandle Work WorkOf). IsPromised w number s y.promise) (sym is) h.0 in
    subst (λ (k : ℕ). IsWork w k (map deed_of s.items) work) (p.caller_is ∙ sym (add-zero number))
    (subst (λ (v : Setting). IsWork v d.promise.caller (map deed_of s.items) work) p.world_is
    (subst (λ (v : Vec Act). IsWork d.promise.world.now d.promise.caller (map deed_of v.items) work) p.acts_are kept))
promised_at w number (s ∷ scripts) (x ∷ workers) (suc i) t d work h lt kept is =
    subst (λ (k : ℕ). IsWork w k (get_or (map (λ (y : Vec Act). map deed_of y.items) scripts) i t) work)
    (sym (one_later number i)) (promised_at w (number + 1) scripts workers i t d work h.1 (omega (arith, lt)) kept is)

pub no_length : {A : Type 0} (xs : List A) → length xs ≡ 0 → xs ≡ []
no_length [] h = refl
no_length (x ∷ xs) h = absurd (omega (arith, h))

same_workers : (w : Setting) (number : ℕ) (scripts : List (Vec Act)) (workers : List (PromisedHandle Work WorkOf))
    → ArePromised w number scripts workers → length workers ≡ length scripts
same_workers w number [] [] h = refl
same_workers w number [] (x ∷ workers) h = absurd h
same_workers w number (s ∷ scripts) [] h = absurd h
same_workers w number (s ∷ scripts) (x ∷ workers) h = ap suc (same_workers w (number + 1) scripts workers h.1)

-- where none was refused, each script has its worker in the end
pub all_started : (w : Setting) (all rest : List (Vec Act)) (passes : List Holding) (workers : List (PromisedHandle Work WorkOf))
    (room : ℕ) (is_short : Bool)
    → IsStarting w all rest passes workers room is_short → is_short ≡ false → passes ≡ [] → ArePromised w 0 all workers
all_started w all rest passes workers room is_short h short none =
    let nothing : rest ≡ [] = no_length rest (same_rest w (length h.done) rest passes h.ready ∙ ap length none) in
    subst (λ (scripts : List (Vec Act)). ArePromised w 0 scripts workers)
    (sym (h.parts ∙ ap (λ ts. h.done ++ ts) nothing ∙ append-nil h.done)) (h.promised short)

-- what the workers of all scripts promised, they returned
pub all_kept : (w : Setting) (scripts : List (Vec Act)) (workers : List (PromisedHandle Work WorkOf)) (works : List Work)
    → ArePromised w 0 scripts workers → length works ≡ length workers
    → ((i : ℕ) (work : Work) → i < length workers → (d : PromisedHandle Work WorkOf) × (d ≡ get_or workers i d)
    × IsWork d.promise.world.now d.promise.caller (map deed_of d.promise.acts.value.items) (get_or works i work))
    → AreWorks w (map (λ (s : Vec Act). map deed_of s.items) scripts) works
all_kept w scripts workers works promised count kept =
    let many : length workers ≡ length scripts = same_workers w 0 scripts workers promised in
    let lists : length (map (λ (s : Vec Act). map deed_of s.items) scripts) ≡ length scripts =
    length-map scripts (λ (s : Vec Act). map deed_of s.items) in record {
      count = omega (arith, count, many, lists);
      each = λ i t work lt.
          let k = kept i work (omega (arith, lt, many, lists)) in
          subst (λ (n : ℕ). IsWork w n (get_or (map (λ (s : Vec Act). map deed_of s.items) scripts) i t) (get_or works i work))
          (zero-add i) (promised_at w 0 scripts workers i t k.0 (get_or works i work) promised (omega (arith, lt, lists)) k.2 k.1);
    }
