-- What is proved of the contracts of `pack` and `unpack`; the laws of the bytes stand in `readings`.
pub mod ContractLaws
