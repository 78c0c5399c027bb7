-- What is wrong with the bytes of a request, and the refusal that says it.
use Rattle.std.specs.Prelude.{ℕ, List, codes}
use Rattle.misp_ids.specs.declared.refusal.Refusal.{Refusal}
use Rattle.misp_ids.specs.declared.refusal.RuleName.{RuleName}
use Rattle.misp_ids.specs.declared.refusal.RuleName.TheVariants.{BadRequest, TooLarge}
use Rattle.misp_http.specs.declared.fault.Fault.{Fault}
use Rattle.misp_http.specs.declared.fault.Fault.TheVariants.{NoHead, LongHead, BadHead}
use Rattle.misp_http.specs.declared.fault.HeadFault.{HeadFault}
use Rattle.misp_http.specs.declared.fault.HeadFault.TheVariants.{ManyHeaders, Encoding, Length, LongBody}

-- ---- the rule, 2 BadRequest or 3 TooLarge

abbrev pub head_fault_rule : HeadFault → RuleName
head_fault_rule ManyHeaders = TooLarge
head_fault_rule Encoding = BadRequest
head_fault_rule Length = BadRequest
head_fault_rule LongBody = TooLarge

abbrev pub fault_rule : Fault → RuleName
fault_rule NoHead = BadRequest
fault_rule LongHead = TooLarge
fault_rule (BadHead fault) = head_fault_rule fault

-- ---- the place

abbrev pub head_fault_place : HeadFault → List ℕ
head_fault_place ManyHeaders = codes "headers"
head_fault_place Encoding = codes "encoding"
head_fault_place Length = codes "length"
head_fault_place LongBody = codes "body"

abbrev pub fault_place : Fault → List ℕ
fault_place NoHead = codes "head"
fault_place LongHead = codes "head"
fault_place (BadHead fault) = head_fault_place fault

-- ---- both

abbrev pub fault_refusal : Fault → Refusal
fault_refusal fault = record { name = fault_rule fault; place = fault_place fault }
