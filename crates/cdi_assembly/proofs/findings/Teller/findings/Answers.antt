use Rattle.std.proofs.Common.{◌≡◌, ◌<◌, ◌+◌, ◌++◌, [], ◌∷◌, ℕ, Bool, true, false, cond, List, length, map, take, get_or, string_bytes, sym}
use Rattle.std.proofs.Common.{ap, ◌∙◌}
use Rattle.std.proofs.lemmas.List.{map-append, append-nil, Elements.filter_more}
use Rattle.cdi_faults.specs.{declared.fault.Fault.Fault, FaultText.text_of_fault}
use Rattle.cdi_assembly.proofs.findings.Teller.findings.Goals.{then-is_told+in_ok-finding+in_ok-push, else-is_told}
use Rattle.cdi_assembly.specs.{declared.findings.Telling.Telling, Told.faults_told, Told.is_told}
use Rattle.cdi_assembly.proofs.findings.Teller.findings.Goals as goal

-- the faults that are told, and one more that is told or not
told-next : (telling : Telling) (fs : List Fault) (i : ℕ) (f : Fault) (b : Bool) → i < length fs → f ≡ get_or fs i f → is_told telling f ≡ b
    → faults_told telling (take (i + 1) fs) ≡ faults_told telling (take i fs) ++ cond b (get_or fs i f ∷ []) []
told-next telling fs i f b lt at is = filter_more (is_told telling) fs i f lt
    ∙ ap (λ told. faults_told telling (take i fs) ++ cond told (get_or fs i f ∷ []) []) (ap (is_told telling) (sym at) ∙ is)

-- their findings, where it is
one-more : {X : Type 0} (text : X → List ℕ) (telling : Telling) (fs : List Fault) (i : ℕ) (f : Fault) (olds news : List X) (new : X)
    → i < length fs → f ≡ get_or fs i f → is_told telling f ≡ true → map text olds ≡ map text_of_fault (faults_told telling (take i fs))
    → news ≡ olds ++ new ∷ [] → text new ≡ text_of_fault f
    → map text news ≡ map text_of_fault (faults_told telling (take (i + 1) fs))
one-more text telling fs i f olds news new lt at told are pushed is =
    ap (map text) pushed
    ∙ map-append text olds (new ∷ [])
    ∙ ap (λ list. list ++ text new ∷ []) are
    ∙ ap (λ last. map text_of_fault (faults_told telling (take i fs)) ++ last ∷ []) (is ∙ ap text_of_fault at)
    ∙ sym (map-append text_of_fault (faults_told telling (take i fs)) (get_or fs i f ∷ []))
    ∙ ap (map text_of_fault) (sym (told-next telling fs i f true lt at told))

-- and where it is not
no-more : {X : Type 0} (text : X → List ℕ) (telling : Telling) (fs : List Fault) (i : ℕ) (f : Fault) (olds : List X)
    → i < length fs → f ≡ get_or fs i f → is_told telling f ≡ false → map text olds ≡ map text_of_fault (faults_told telling (take i fs))
    → map text olds ≡ map text_of_fault (faults_told telling (take (i + 1) fs))
no-more text telling fs i f olds lt at untold are =
    are ∙ ap (map text_of_fault) (sym (told-next telling fs i f false lt at untold ∙ append-nil (faults_told telling (take i fs))))

pub loop-fault-preserved : goal.loop-fault-preserved
loop-fault-preserved g c = elim c.if-is_told.branch [
  | then-is_told+in_ok-finding+in_ok-push w ↦ ap (λ list. map (λ f. string_bytes f.text) list.items) w.findings-is
      ∙ one-more (λ f. string_bytes f.text) c.args.self.now.telling c.args.faults.now c.loop-fault.fault-index c.fault-item.result
      c.loop-fault.findings.items _ w.in_ok-finding.field-0 c.loop-fault-test.true c.fault-item.is
      (sym c.is_told.ensures ∙ w.if-is_told.true) c.loop-fault.invariant w.in_ok-push.ensures.items w.in_ok-finding.ensures
  | else-is_told w ↦ ap (λ list. map (λ f. string_bytes f.text) list.items) w.findings-is
      ∙ no-more (λ f. string_bytes f.text) c.args.self.now.telling c.args.faults.now c.loop-fault.fault-index c.fault-item.result
      c.loop-fault.findings.items c.loop-fault-test.true c.fault-item.is (sym c.is_told.ensures ∙ w.if-is_told.false)
      c.loop-fault.invariant
]
