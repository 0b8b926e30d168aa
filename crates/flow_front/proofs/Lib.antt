mod InputsChange
