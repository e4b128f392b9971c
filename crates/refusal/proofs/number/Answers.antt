use mathlib.Core.Path.{ap, sym}
use Rattle.refusal.specs.Paper.{number_of}
use Rattle.refusal.proofs.number.Goals as goal

pub returns-in-UnexpectedEnd : goal.returns-in-UnexpectedEnd
returns-in-UnexpectedEnd c = ap number_of (sym c.in-UnexpectedEnd.is)

pub returns-in-LengthExceedsBound : goal.returns-in-LengthExceedsBound
returns-in-LengthExceedsBound c = ap number_of (sym c.in-LengthExceedsBound.is)

pub returns-in-TrailingBytes : goal.returns-in-TrailingBytes
returns-in-TrailingBytes c = ap number_of (sym c.in-TrailingBytes.is)

pub returns-in-InvalidValue : goal.returns-in-InvalidValue
returns-in-InvalidValue c = ap number_of (sym c.in-InvalidValue.is)

pub returns-in-TooLarge : goal.returns-in-TooLarge
returns-in-TooLarge c = ap number_of (sym c.in-TooLarge.is)

pub returns-in-InvalidName : goal.returns-in-InvalidName
returns-in-InvalidName c = ap number_of (sym c.in-InvalidName.is)

pub returns-in-InvalidNameState : goal.returns-in-InvalidNameState
returns-in-InvalidNameState c = ap number_of (sym c.in-InvalidNameState.is)

pub returns-in-NonCanonicalNameState : goal.returns-in-NonCanonicalNameState
returns-in-NonCanonicalNameState c = ap number_of (sym c.in-NonCanonicalNameState.is)

pub returns-in-NameStateHashMismatch : goal.returns-in-NameStateHashMismatch
returns-in-NameStateHashMismatch c = ap number_of (sym c.in-NameStateHashMismatch.is)

pub returns-in-CoinbaseRequiresIssuanceVerifier : goal.returns-in-CoinbaseRequiresIssuanceVerifier
returns-in-CoinbaseRequiresIssuanceVerifier c = ap number_of (sym c.in-CoinbaseRequiresIssuanceVerifier.is)

pub returns-in-InputCountMismatch : goal.returns-in-InputCountMismatch
returns-in-InputCountMismatch c = ap number_of (sym c.in-InputCountMismatch.is)

pub returns-in-CoinOutpointMismatch : goal.returns-in-CoinOutpointMismatch
returns-in-CoinOutpointMismatch c = ap number_of (sym c.in-CoinOutpointMismatch.is)

pub returns-in-MissingLinkedOutput : goal.returns-in-MissingLinkedOutput
returns-in-MissingLinkedOutput c = ap number_of (sym c.in-MissingLinkedOutput.is)

pub returns-in-InvalidTransition : goal.returns-in-InvalidTransition
returns-in-InvalidTransition c = ap number_of (sym c.in-InvalidTransition.is)

pub returns-in-MalformedCovenant : goal.returns-in-MalformedCovenant
returns-in-MalformedCovenant c = ap number_of (sym c.in-MalformedCovenant.is)

pub returns-in-NameHashMismatch : goal.returns-in-NameHashMismatch
returns-in-NameHashMismatch c = ap number_of (sym c.in-NameHashMismatch.is)

pub returns-in-StartHeightMismatch : goal.returns-in-StartHeightMismatch
returns-in-StartHeightMismatch c = ap number_of (sym c.in-StartHeightMismatch.is)

pub returns-in-BlindCommitmentMismatch : goal.returns-in-BlindCommitmentMismatch
returns-in-BlindCommitmentMismatch c = ap number_of (sym c.in-BlindCommitmentMismatch.is)

pub returns-in-BidValueInflation : goal.returns-in-BidValueInflation
returns-in-BidValueInflation c = ap number_of (sym c.in-BidValueInflation.is)

pub returns-in-ClaimCannotRedeem : goal.returns-in-ClaimCannotRedeem
returns-in-ClaimCannotRedeem c = ap number_of (sym c.in-ClaimCannotRedeem.is)

pub returns-in-AddressMismatch : goal.returns-in-AddressMismatch
returns-in-AddressMismatch c = ap number_of (sym c.in-AddressMismatch.is)

pub returns-in-LockedValueMismatch : goal.returns-in-LockedValueMismatch
returns-in-LockedValueMismatch c = ap number_of (sym c.in-LockedValueMismatch.is)

pub returns-in-TransferDestinationMismatch : goal.returns-in-TransferDestinationMismatch
returns-in-TransferDestinationMismatch c = ap number_of (sym c.in-TransferDestinationMismatch.is)

pub returns-in-RevokedCoinSpent : goal.returns-in-RevokedCoinSpent
returns-in-RevokedCoinSpent c = ap number_of (sym c.in-RevokedCoinSpent.is)

pub returns-in-UnknownCovenantCreatesName : goal.returns-in-UnknownCovenantCreatesName
returns-in-UnknownCovenantCreatesName c = ap number_of (sym c.in-UnknownCovenantCreatesName.is)

pub returns-in-UnpairedLinkedOutput : goal.returns-in-UnpairedLinkedOutput
returns-in-UnpairedLinkedOutput c = ap number_of (sym c.in-UnpairedLinkedOutput.is)

pub returns-in-SheetField : goal.returns-in-SheetField
returns-in-SheetField c = ap number_of (sym c.in-SheetField.is)

pub returns-in-SheetTooLong : goal.returns-in-SheetTooLong
returns-in-SheetTooLong c = ap number_of (sym c.in-SheetTooLong.is)

pub returns-in-NoRoom : goal.returns-in-NoRoom
returns-in-NoRoom c = ap number_of (sym c.in-NoRoom.is)

pub returns-in-BadItem : goal.returns-in-BadItem
returns-in-BadItem c = ap number_of (sym c.in-BadItem.is)
